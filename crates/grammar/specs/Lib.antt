-- The definition of the language: what a reader must believe.
pub mod Words
pub mod Tree
pub mod Parsed
pub mod Rules
pub mod Expressions
pub mod Statements
pub mod Script
pub mod Examples
pub mod Claims
pub mod Once
