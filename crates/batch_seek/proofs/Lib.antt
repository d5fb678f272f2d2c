-- `Seeks` has the laws of the small steps of the walk.
pub mod Seeks
