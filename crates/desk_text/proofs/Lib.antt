-- `Overs`: texts put one behind the other. `Decimals`: the fewest digits of a number.
pub mod Overs
pub mod Decimals
