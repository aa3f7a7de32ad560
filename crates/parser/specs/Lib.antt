-- What is promised of the entries.
pub mod Promises
