-- Laws that the proofs of this crate and of others cite, and what is proved of the contracts.
pub mod Steps
pub mod Arrays
pub mod Determined
