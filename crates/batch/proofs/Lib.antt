-- The laws: `Rooms` of a call of the root in the model, `Settled` of a root after a call, `Rounds` of the loop of a batch.
pub mod Rooms
pub mod Settled
pub mod Rounds
