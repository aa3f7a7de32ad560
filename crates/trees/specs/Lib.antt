-- The definitions that the contracts of `trees` cite, and what is claimed of them.
pub mod Pool
pub mod Survey
pub mod Verdict
pub mod Leaves
pub mod Complete
pub mod Exact
