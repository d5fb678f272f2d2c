-- The laws of changing a node: `Leaves` has the foot of the recursion, `Strolls` a turn over nodes alone, `Walks` the loop against the model's walk,
-- `Rounds` the loop's values in the code.
pub mod Leaves
pub mod Strolls
pub mod Walks
pub mod Rounds
