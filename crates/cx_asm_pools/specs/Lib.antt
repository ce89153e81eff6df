pub mod Pools
-- Statements of laws.
pub mod Laws
-- Lemmas for the crates above.
pub mod Facts
-- Words of private functions.
pub mod Parts
