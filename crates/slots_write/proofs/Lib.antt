-- `Puts` has the laws of words replaced in a slot.
pub mod Puts
