-- `Promises` says what is known of a tree of a pool.
pub mod Promises
