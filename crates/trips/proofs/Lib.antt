-- The proofs of what is promised.
pub mod Texts
pub mod Trips
pub mod Passed
