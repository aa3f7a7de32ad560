-- What the contracts of `recorded` say.
pub mod Numbers
