-- The laws that the functions' proofs share, the theorems on the definitions, and what is proved of the contracts.
mod Lists
mod Cut
mod Hop
mod Room
mod Lies
pub mod Held
pub mod Needed
pub mod Lined
pub mod Same
pub mod LooksUp
pub mod Determined
pub mod Examples
