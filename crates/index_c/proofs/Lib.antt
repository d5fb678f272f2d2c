-- `Outcomes`: what the length of a pool and a frame that is read report. `One`: a promise leaves one outcome. `InTurn`:
-- calls in turn are a listing.
pub mod Outcomes
pub mod One
pub mod InTurn
