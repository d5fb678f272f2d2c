-- `Asked`: a line, and what was read of it.
pub mod Asked
