-- What the contracts of `refusals` say.
pub mod Reasons
pub mod Refusal
pub mod Inside
