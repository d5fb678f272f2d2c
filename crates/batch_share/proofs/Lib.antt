-- The laws, each file over those before it: `Weights` of sums that fit a row; `Zips`, `Places`, `Parents`, `Puts` of lists, readings and nodes written;
-- `Recast` THE ONE LAW of settling, and its instances `Turns` with `Cuts` (two neighbours cut otherwise) and `Splits`; then the steps put together:
-- `Readings`, `Shares`.
pub mod Weights
pub mod Zips
pub mod Places
pub mod Parents
pub mod Recast
pub mod Puts
pub mod Turns
pub mod Cuts
pub mod Focuses
pub mod Splits
pub mod Readings
pub mod Shares
