-- The definitions, in reading order.
pub mod Statements
pub mod Whole
pub mod SecondFaults
-- Lemmas for the crates above.
pub mod Facts
