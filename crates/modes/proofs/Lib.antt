-- What is proved of the contracts.
pub mod Determined
mod Signs
