-- The definitions that the contracts of `four` cite.
pub mod Answers
