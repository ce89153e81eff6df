-- Lemmas that declarations and other crates cite.
pub mod NameBytes
pub mod Readings
