-- What the contracts of `rows` say.
pub mod Rows
