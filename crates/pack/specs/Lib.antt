-- `Build` has the pieces that are built, `Promises` what building asks and leaves.
pub mod Build
pub mod Promises
