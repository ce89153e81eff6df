-- Lemmas for the crates above.
pub mod AllFaults
pub mod Mended
