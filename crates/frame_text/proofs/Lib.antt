-- `Lines` is of writing, `Spelt` of reading, `Coded` of both kinds of entry, `Told` of answers.
pub mod Lines
pub mod Spelt
pub mod Coded
pub mod Told
