-- `Outputs` is for all that is listed.
pub mod Outputs
