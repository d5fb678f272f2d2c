-- The laws, each file over those before it: `Pads`, `Nodes`, `Writes` and `Pairs` of nodes, `Others` of what another tree sees.
pub mod Pads
pub mod Nodes
pub mod Writes
pub mod Pairs
pub mod Others
