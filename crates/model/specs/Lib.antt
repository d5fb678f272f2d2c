-- Document 01 as definitions, one idea a file. `Sound`, `Demands`, `TwoTrees` and `LiveSizes` say what is proved of them, in proofs/; `Promises` has
-- the words of the inner crates' contracts.
pub mod Lists
pub mod Tree
pub mod Plain
pub mod Share
pub mod Change
pub mod Answer
pub mod Look
pub mod Refuse
pub mod Frame
pub mod ReadFrame
pub mod Sound
pub mod Promises
pub mod Demands
pub mod Forest
pub mod TwoTrees
pub mod LiveSizes
pub mod Cases
