-- `Calls` says what each call promises, `InTurn` that calls of a listing one after the other are a listing.
pub mod Calls
pub mod InTurn
