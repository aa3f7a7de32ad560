-- What the proofs of the functions share, and what is proved of the definition and the contracts.
pub mod Decimal
mod Buffers
mod Words
pub mod Texts
pub mod Examples
pub mod Determined
