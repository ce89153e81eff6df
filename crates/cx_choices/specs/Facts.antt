-- Lemmas for the crates above: when two states are the same.
pub mod Same
