-- The lemmas that the proofs of the functions use, and that each contract has one result.
mod Shapes
mod Rest
mod Spelling
mod Fronts
mod Going
pub mod Outcomes
pub mod Determined
