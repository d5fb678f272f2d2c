-- `Search` says where a key stands among rows, `Promises` has what the functions ask and say.
pub mod Search
pub mod Promises
