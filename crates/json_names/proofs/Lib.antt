-- What is proved of the contract.
pub mod Determined
