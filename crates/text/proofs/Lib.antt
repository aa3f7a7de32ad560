-- The laws that the functions' proofs share, the theorems on the two entries, and what is proved of the contracts.
pub mod Pass
pub mod Cases
pub mod Entries
pub mod Keeps
pub mod Determined
