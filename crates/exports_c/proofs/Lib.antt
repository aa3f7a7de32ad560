-- What is proved of the contracts.
mod Determined
