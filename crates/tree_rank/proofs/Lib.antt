-- `Ranks` has the laws of ranks: of lists joined, of a step down, and of the way down to a leaf.
pub mod Ranks
