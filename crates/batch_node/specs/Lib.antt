-- `Promises` has what changing a node asks and answers.
pub mod Promises
