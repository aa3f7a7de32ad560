-- The definitions that the contracts of `json_values` cite.
pub mod Puts
pub mod Valued
