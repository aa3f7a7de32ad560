-- What is proved of refusals, and that each contract has one result.
pub mod Laws
pub mod Determined
