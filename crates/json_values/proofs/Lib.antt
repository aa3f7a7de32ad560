-- What the proofs of the functions share, the laws of putting for callers, and what is proved of values and of the contracts.
pub mod Puts
mod Plain
mod Turns
mod Runs
mod Strings
mod Read
mod Folding
pub mod Valued
pub mod Determined
