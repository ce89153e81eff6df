-- Lemmas for the crates above.
pub mod Bases
pub mod Accepted
pub mod AllFaults
