-- What is proved of the check, that each contract has one result, and what only the proofs here ask.
pub mod Words
mod Tests
pub mod Linked
mod Zeros
mod Walk
mod Firsts
mod Answers
pub mod Sound
pub mod Unique
pub mod Complete
mod Different
pub mod Size
pub mod Exact
pub mod Laid
pub mod Determined
