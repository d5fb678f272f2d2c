-- `Refusals` says how a batch is refused.
pub mod Refusals
