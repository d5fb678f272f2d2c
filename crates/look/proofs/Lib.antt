-- `Descents` is for multi-get; `Sounds` for the calls, from a sound pool.
pub mod Descents
pub mod Sounds
