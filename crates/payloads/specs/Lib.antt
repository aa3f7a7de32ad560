-- The definitions that the contracts of `payloads` cite, and what is claimed of them.
pub mod Fields
pub mod Needs
pub mod Index
pub mod Claims
