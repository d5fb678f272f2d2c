-- `Walk` says what a scan asks of rows and what its walk adds, `Promises` what the walk asks of the pool.
pub mod Walk
pub mod Promises
