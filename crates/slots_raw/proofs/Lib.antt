-- The laws, each file over those before it: `Over` and `Chunks` of lists, `Views` of kinds, `Raws` of slots.
pub mod Over
pub mod Chunks
pub mod Views
pub mod Raws
