-- Lemmas about storage that the crates above cite.
pub mod Sound
pub mod Aligned
pub mod Spans
pub mod Writes
pub mod Areas
pub mod Places
pub mod Words
