-- How a tree is written, and what is claimed of it.
pub mod Written
pub mod Claims
