-- `Promises` has what a batch asks of a pool, and what it leaves.
pub mod Promises
