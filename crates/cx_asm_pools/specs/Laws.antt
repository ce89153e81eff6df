-- Statements of laws.
pub mod Literals
