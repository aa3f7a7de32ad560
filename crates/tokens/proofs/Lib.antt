-- Laws that the proofs of this crate and of others cite, and what is proved of the contracts.
pub mod Tests
pub mod Arms
pub mod Classes
pub mod Besides
pub mod Round
pub mod Determined
