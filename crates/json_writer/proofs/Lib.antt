-- What is proved of depths, and what the functions' proofs share.
pub mod DeepPaths
mod DeepClears
mod DeepTurns
mod DeepFirst
mod Parts
mod Wholes
mod Members
mod Checked
pub mod Outcomes
pub mod Same
pub mod Determined
