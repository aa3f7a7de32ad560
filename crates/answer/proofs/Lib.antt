-- What answers tell, that each contract has one result, and what only the proofs here ask.
pub mod Laws
pub mod Determined
mod Starts
