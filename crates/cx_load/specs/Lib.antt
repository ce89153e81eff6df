-- The definitions, in reading order.
pub mod Fault
pub mod Relocation
pub mod Program
pub use Rattle.cx_storage.specs.Address
pub use Rattle.cx_storage.specs.Storage
pub use Rattle.cx_storage.specs.Place
-- Words that the laws use.
pub mod Laws
-- Lemmas for the crates above.
pub mod Facts

-- Words of private functions.
