-- `Spared` says what is known of the unused slots of a pool, and how that changes.
pub mod Spared
