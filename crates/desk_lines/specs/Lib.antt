-- `Lines` says what the lines of a text are, `Parts` what is kept of a line that comes in parts.
pub mod Lines
pub mod Parts
