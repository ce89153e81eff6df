-- The statements of laws.
pub mod Known
