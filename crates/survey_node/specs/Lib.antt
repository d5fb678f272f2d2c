-- `Parts` has what the walk over a tree carries, `Promises` what it tells of a node, and what of a whole tree.
pub mod Parts
pub mod Promises
