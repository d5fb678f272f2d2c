-- `Over` has two words on lists, `Slots` cuts the words of a pool into slots, `Promises` has what the functions ask and say.
pub mod Over
pub mod Slots
pub mod Promises
