-- `Plan` says what is planned of a tree, `Promises` what the functions ask.
pub mod Plan
pub mod Promises
