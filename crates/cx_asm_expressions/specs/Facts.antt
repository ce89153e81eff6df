-- Lemmas for the crates above.
pub mod Faults
pub mod Constants
