-- The definitions, in reading order.
pub mod Resolving
pub mod Listing
pub mod Assembly
-- Statements of laws.
pub mod Laws
pub mod Facts
-- Words of private functions.
pub mod Parts
