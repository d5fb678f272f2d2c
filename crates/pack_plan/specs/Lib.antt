-- `Plan` says how many nodes a packed tree has, `Promises` what the functions ask and say.
pub mod Plan
pub mod Promises
