-- `Told` says how an answer stands in a result and small buffers.
pub mod Told
