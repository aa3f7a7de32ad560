-- The definitions that the contracts of `json_writer` cite, and what is claimed of them.
pub mod Deep
pub mod Ready
pub mod Tells
pub mod Claims
