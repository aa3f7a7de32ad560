-- Laws of slots and their numbers that callers cite, that each contract has one result, and what only the proofs here ask.
pub mod Either
pub mod Numbers
pub mod Determined
