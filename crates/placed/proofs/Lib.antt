-- That the check has one answer and each contract one result, and what only the proofs here ask.
mod Rows
mod Answers
pub mod Unique
pub mod Determined
pub mod Examples
