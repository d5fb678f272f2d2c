-- The laws, each file over those before it: `Merges` and `Outs`, further instances of the one law of settling; `Joins`, the steps put together.
pub mod Merges
pub mod Outs
pub mod Joins
