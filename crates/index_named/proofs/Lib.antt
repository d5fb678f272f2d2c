-- `Spares`: the unused slots, whichever tree sees them. `Trees`: from the survey of a pool to a tree of it, and what a call takes from a tree that was
-- found, or was not.
pub mod Spares
pub mod Trees
