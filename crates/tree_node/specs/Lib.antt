-- `Ask` has what a node of a tree is asked.
pub mod Ask
