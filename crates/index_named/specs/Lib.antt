-- `Promises` says what is found of the tree that a call names.
pub mod Promises
