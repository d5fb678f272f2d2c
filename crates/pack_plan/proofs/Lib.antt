-- `Heights` is of capacities and the search for a height, `Sums` of sums over pieces and the nodes counted by them, `Nodes` says that they are the
-- packed tree's.
pub mod Heights
pub mod Sums
pub mod Nodes
