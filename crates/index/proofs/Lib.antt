-- `Opens`: opening. `Found`: from the search for a tree to a batch. `Register`: the third demand, of the calls. `Trees`: two trees in one pool. `Packed`: what packing has done.
-- `LiveSizes`: clearing and scans, since a size sum counts live entries alone.
pub mod Opens
pub mod Found
pub mod Register
pub mod Trees
pub mod Packed
pub mod LiveSizes
