-- Laws of a pool's rows that callers cite, that each contract has one result, and what only the proofs here ask.
pub mod Laws
pub mod Determined
mod Parts
mod Flags
