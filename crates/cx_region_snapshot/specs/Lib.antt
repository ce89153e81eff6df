-- The definitions.
pub mod Hash
-- Words of private functions.
pub mod Parts
