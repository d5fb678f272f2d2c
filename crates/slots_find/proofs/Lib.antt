-- `Finds` has the laws of the search.
pub mod Finds
