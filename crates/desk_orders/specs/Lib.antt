-- `Orders` says what a line asks for.
pub mod Orders
