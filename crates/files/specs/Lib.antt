-- The definitions that the contracts of `files` cite, and what is claimed of them.
pub mod File
pub mod Entry
pub mod Claims
