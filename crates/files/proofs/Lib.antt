-- The laws that the functions' proofs share, the theorems on the definition, and what is proved of the contract.
pub mod Good
pub mod Pass
pub mod Outcomes
pub mod Bound
pub mod Payloads
pub mod Determined
pub mod Examples
