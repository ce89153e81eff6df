-- Lemmas that other crates cite.
pub mod Unchanged
pub mod Seen
