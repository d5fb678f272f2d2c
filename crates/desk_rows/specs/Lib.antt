-- `Rows` says what the rows of a line are, `Numbers` what the functions that read them promise.
pub mod Rows
pub mod Numbers
