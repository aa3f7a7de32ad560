-- What the proofs of `outline` share.
mod Files
