-- The laws: `Tasks` of a batch's tasks by their place, `Steps` of one key in a leaf, `Turns` of the loop over the keys.
pub mod Tasks
pub mod Steps
pub mod Turns
