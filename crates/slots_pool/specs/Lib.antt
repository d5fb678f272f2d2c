-- `Header` has the settings, and `Image` goes back down, from nodes to words.
pub mod Header
pub mod Image
