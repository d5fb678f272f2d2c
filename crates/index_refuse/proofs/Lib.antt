-- `Refuses` has the laws of the refusals of a batch.
pub mod Refuses
