-- `Readings`: the readings hold. `Starts`: what is due from the next start on. `Outputs`: from the output to the entries shown.
pub mod Readings
pub mod Starts
pub mod Outputs
