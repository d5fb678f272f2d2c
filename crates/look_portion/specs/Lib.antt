-- `Portion` says what a portion is, `Readings` works some out; `Promises` has what a function here promises.
pub mod Portion
pub mod Promises
pub mod Readings
