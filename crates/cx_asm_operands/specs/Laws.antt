-- Statements of laws.
pub mod AddressLaws
