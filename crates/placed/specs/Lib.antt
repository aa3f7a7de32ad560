-- The definitions that the contracts of `placed` cite.
pub mod Over
pub mod Left
pub mod Steps
