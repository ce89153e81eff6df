-- The definitions, in reading order.
pub mod Address
pub mod Storage
pub mod Aligned
pub mod Place
pub mod Word
-- The laws that the module `laws` promises.
pub mod Laws
-- Lemmas for the crates above.
pub mod Facts
-- Words of private functions.
pub mod Parts
