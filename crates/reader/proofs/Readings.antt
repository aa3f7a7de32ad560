-- The definitions of statements, one reading after another.
pub mod AtKeyword
pub mod Block
pub mod ForEach
pub mod ForLoop
pub mod Function
pub mod IfStatement
pub mod TryStatement
pub mod WhileStatement
