-- `Register` says what document 01 demands of the calls together, tree by tree; `Trees` what document 02 says of two trees in one pool, `Packed` what it
-- demands of packing, `LiveSizes` what it says of clearing and of scans, since a size sum counts live entries alone.
pub mod Register
pub mod Trees
pub mod Packed
pub mod LiveSizes
