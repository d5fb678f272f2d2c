-- `Unique`: a promise leaves one answer. `Dones`: what is known of a reading call that was done.
pub mod Unique
pub mod Dones
