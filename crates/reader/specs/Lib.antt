-- What the readers ask and ensure.
pub mod Kinds
pub mod Sources
pub mod Meets
pub mod Promises
pub mod Entries
