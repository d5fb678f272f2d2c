-- `Weights` has the laws of a node's row, `Seeks` those of the child that a key goes to.
pub mod Weights
pub mod Seeks
