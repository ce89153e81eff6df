pub mod Roles
pub mod Layout
pub mod Given
pub mod PassState
pub mod Locations
pub mod AllFaults
-- Statements of laws.
pub mod Laws
-- Lemmas for the crates above.
pub mod Facts
-- Words of private functions.
pub mod Parts
