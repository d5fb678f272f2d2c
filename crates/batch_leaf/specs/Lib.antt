-- `Keys` says what is done under a key and what a leaf takes, `Promises` has what the functions ask and promise.
pub mod Keys
pub mod Promises
