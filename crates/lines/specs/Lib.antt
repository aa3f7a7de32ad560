-- What `outline` prints, and what the contracts of `lines` say.
pub mod Decimal
pub mod Lines
pub mod Writes
pub mod Example
