-- The definitions that the contracts of `slots` cite, and that trees are defined by.
pub mod Slots
pub mod Fine
pub mod Codes
