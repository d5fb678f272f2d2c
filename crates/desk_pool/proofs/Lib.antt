-- `Tells`: a batch, told as text.
pub mod Tells
