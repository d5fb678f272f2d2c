-- `Seek` has the steps of the walk among a node's children.
pub mod Seek
