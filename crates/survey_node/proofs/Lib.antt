-- The laws, each file over those before it: `Ascents` of keys, `Rows` and `Walks` of the walk over a node's rows, `Heads` of what the
-- words of a slot say.
pub mod Ascents
pub mod Rows
pub mod Walks
pub mod Heads
