-- `Words` says what the words of a pool are.
pub mod Words
