-- `Runs` has the laws of `specs/Moves.antt`, for the proofs of this crate and of the crates that link it.
pub mod Runs
