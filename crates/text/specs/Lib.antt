-- The definitions that the contracts of `text` cite, and what is claimed of them.
pub mod Fold
pub mod Entries
pub mod Claims
