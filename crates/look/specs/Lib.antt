-- `Promises` has what the calls ask and promise.
pub mod Promises
