-- `Finds`: a byte looked for. `Keeps`: a line that comes in parts.
pub mod Finds
pub mod Keeps
