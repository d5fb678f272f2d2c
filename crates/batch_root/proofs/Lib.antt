-- The laws: `Sets` of a node put into a slot, `Indexes` of the index that is read off the nodes, and `Outside` of the slots that are none of its;
-- `Splits` and `Lifts` of a root split and of a root that gives way to its child, over nodes, and `Grows` and `Sinks` of the same over the pool.
pub mod Sets
pub mod Indexes
pub mod Outside
pub mod Splits
pub mod Lifts
pub mod Grows
pub mod Sinks
