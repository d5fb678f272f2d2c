-- The laws of specs/. `Rows`, `Sums` and `Bounds` are of a row's words and what they add up to, `Keys` of its key, `Children` of the rows of
-- a node that holds a tree; `Pools` ends in what this crate is for: sound pools and sound forests are one and the same.
pub mod Cells
pub mod Unused
pub mod Rows
pub mod ReadOff
pub mod Sums
pub mod Bounds
pub mod Keys
pub mod Few
pub mod SoundHolds
pub mod HoldsSound
pub mod NodesOf
pub mod Fitting
pub mod Pools
pub mod Opening
pub mod Children
