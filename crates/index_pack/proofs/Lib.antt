-- `Asks`: what is asked before the first write. `Plans`: a tree that is planned. `Targets`: a new pool as a target. `Builds`: both trees built in it.
-- `Keeps`: what keeps the promise. `Finds`: a pool as its survey found it. `Tells`: so of what the code has.
pub mod Asks
pub mod Plans
pub mod Targets
pub mod Builds
pub mod Keeps
pub mod Finds
pub mod Tells
