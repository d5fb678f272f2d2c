-- The laws of packing, what document 02 demands of it, and that the readings hold.
pub mod Pieces
pub mod Packs
pub mod Levels
pub mod Least
pub mod Only
pub mod Packing
pub mod PackForest
pub mod Readings
