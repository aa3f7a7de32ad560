-- The definitions that the contracts of `answer` cite.
pub mod Answer
