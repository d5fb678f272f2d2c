-- The laws, each file over those before it: `Canons`, `Images` and `Zeros` of pools in order and how they are told, `Fresh` of a new pool.
pub mod Canons
pub mod Images
pub mod Zeros
pub mod Fresh
