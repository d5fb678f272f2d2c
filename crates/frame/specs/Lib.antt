-- `Frames` says what a frame tells of rows and trees, `Promises` what the walk over a pool's slots asks and finds, `Undo` what follows from the
-- promises of writing and reading.
pub mod Frames
pub mod Promises
pub mod Undo
