-- `Walks` and `Noded` are of a pool's nodes, `Undoes` of writing and reading together.
pub mod Walks
pub mod Noded
pub mod Undoes
