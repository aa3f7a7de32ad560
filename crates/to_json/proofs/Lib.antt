-- What the proofs of `to_json` share, and what is proved of what is shown.
mod Files
mod Lines
pub mod Claimed
