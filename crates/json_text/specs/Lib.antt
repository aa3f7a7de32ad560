-- The JSON text of a tree, and what is claimed of it.
pub mod Values
pub mod Json
pub mod Rfc
pub mod Claims
