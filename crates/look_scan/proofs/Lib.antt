-- `Visits` and `Rounds` are for the scan's walk.
pub mod Visits
pub mod Rounds
