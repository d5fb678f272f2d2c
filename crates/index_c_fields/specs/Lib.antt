-- `Fields` says how a frame that was read stands in the buffers of its fields.
pub mod Fields
