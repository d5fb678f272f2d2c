-- `Nodes` reads slots as nodes, `Promises` has what the functions ask and say.
pub mod Nodes
pub mod Promises
