-- `Promises` has what the function asks.
pub mod Promises
