-- The definitions that the contracts of `writer` cite.
pub mod Codes
pub mod Walk
pub mod Wrote
pub mod Ready
