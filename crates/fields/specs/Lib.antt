-- The definitions that the contracts of `fields` cite.
pub mod Classes
pub mod Field
