mod Slots
mod Fronts
mod Answers
mod Parts
mod Roots
mod Loops
mod Moves
mod Matches
mod Definitions
mod Others
mod Bodies
mod Shared
mod Ends
mod Lists
mod Rests
mod Readings
pub mod Wholes
mod Determined
