-- `Promises` has what the survey of a pool promises, and what the pass over its slots tells.
pub mod Promises
