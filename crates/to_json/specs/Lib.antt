-- What the contracts of `to_json` say, and what is claimed of it.
pub mod Shown
pub mod Claims
