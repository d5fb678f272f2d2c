-- `Puts` has the slots of a pool with one of them changed, `Promises` what the functions that write promise.
pub mod Puts
pub mod Promises
