-- The laws, each file over those before it: `Edges` of the left edge, `Sweeps` of the pass over the slots; `Places` and `Apart` that each slot is reached
-- once; `Verdicts` of what the tests tell together, and that the promise leaves one answer; `Steps` of what each step of the survey tells; `Decides` that
-- soundness is decidable; `Founds` what a survey has found.
pub mod Edges
pub mod Sweeps
pub mod Places
pub mod Apart
pub mod Verdicts
pub mod Steps
pub mod Decides
pub mod Founds
