-- `Roots` has the index at the root of a pool and what becomes of it, `Promises` what each function on the root asks and promises.
pub mod Roots
pub mod Promises
