-- What the tags tell, what arms leave over, and what is proved of the contracts.
pub mod Tags
pub mod Arms
pub mod Determined
