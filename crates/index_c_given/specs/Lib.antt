-- `Places` says what an array of 32 places holds, `Given` what a caller's numbers and flags stand for.
pub mod Places
pub mod Given
