-- `Contents` says what a kind and entries by value are, `Answers` what writing and reading promise, `Digits` how a line spells bytes, `Entries`
-- which bytes an entry has.
pub mod Contents
pub mod Answers
pub mod Digits
pub mod Entries
