-- `Rank` says how many entries rows stand for, `Promises` has what the functions ask and say.
pub mod Rank
pub mod Promises
