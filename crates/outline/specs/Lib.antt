-- What the contracts of `outline` say.
pub mod Outlined
