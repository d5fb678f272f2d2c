-- `Spelt`: the digits of a number. `Fields`: a line field by field.
pub mod Spelt
pub mod Fields
