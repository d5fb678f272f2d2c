-- `Moves` says what is done to a run of words.
pub mod Moves
