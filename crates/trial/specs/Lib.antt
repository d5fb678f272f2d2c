-- `Numbers` says what the functions on numbers give.
pub mod Numbers
