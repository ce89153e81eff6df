-- Lemmas that other crates cite.
pub mod Inputs
pub mod Room
pub mod Areas
