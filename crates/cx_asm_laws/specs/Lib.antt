-- Statements of laws.
pub mod Laws
pub mod Facts
