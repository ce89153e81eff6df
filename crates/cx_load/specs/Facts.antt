-- Lemmas about images that the crates above cite.
pub mod Faults
