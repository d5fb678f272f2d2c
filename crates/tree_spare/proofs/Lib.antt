-- `Spares` has the laws of what is known of the unused slots.
pub mod Spares
