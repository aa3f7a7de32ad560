mod Table
mod Stood
mod Dress
pub mod Shapes
pub mod Signs
mod Heads
mod Back
mod Exprs
mod Stated
mod Arms
mod Says
pub mod Good
mod Roots
pub mod Trip
mod Accepts
pub mod Fits
mod Opens
mod Lows
mod Nested
pub mod Deep
