-- Statements of laws.
pub mod First
pub mod Marks
