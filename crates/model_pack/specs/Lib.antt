-- Packing as definitions: `Pack` of one tree, `PackForest` of both, and the call; `Packing` and `PackForest` say what is proved of them, in proofs/;
-- `Readings` works some out.
pub mod Pack
pub mod Packing
pub mod PackForest
pub mod Readings
