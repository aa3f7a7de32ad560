-- What is proved of the JSON text of a tree.
pub mod Table
pub mod Decimal
pub mod Strings
pub mod Names
pub mod Payloads
pub mod Rows
pub mod Trees
pub mod Injective
pub mod Texts
pub mod Grammar
pub mod Closed
pub mod Utf8
