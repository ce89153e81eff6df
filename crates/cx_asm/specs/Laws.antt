-- Statements of laws.
pub mod SectionLines
pub mod SecondFirst
