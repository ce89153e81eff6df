-- Lemmas for the crates above: when two states are the same, and what holds of keys.
pub mod Same
pub mod Keys
