-- `Rooms`: the frames of the pool have room. `Shows`: a dump, one frame a turn.
pub mod Rooms
pub mod Shows
