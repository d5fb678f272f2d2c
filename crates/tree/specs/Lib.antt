-- `Bridge` says what a row means and which nodes hold which tree, `Sums` what the rows of a node add up to, `Pool` what a sound pool is,
-- `Promises` what the functions on rows and nodes ask, what opening a pool promises, and what is known of a pool that is
-- looked into.
pub mod Bridge
pub mod Sums
pub mod Pool
pub mod Promises
