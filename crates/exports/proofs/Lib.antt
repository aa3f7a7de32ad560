-- What is proved of the contracts.
mod Fours
pub mod Determined
