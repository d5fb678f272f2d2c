-- `Sessions`: lines one after the other, and that an answer is one. `Cuts`: a text that is cut.
pub mod Sessions
pub mod Cuts
