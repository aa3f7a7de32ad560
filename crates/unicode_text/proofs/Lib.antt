-- The theorems on texts, the laws that the functions' proofs share, and what is proved of the contracts.
pub mod Leads
pub mod Values
pub mod Takes
pub mod Found
pub mod Turns
pub mod Parts
pub mod Texts
pub mod Pass
pub mod Determined
