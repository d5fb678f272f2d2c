-- `Output` says how the lent output fills.
pub mod Output
