-- What is promised of the entries, the check and the writer together.
pub mod Promises
