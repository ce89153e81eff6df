-- Lemmas that other crates cite.
pub mod Ranges
pub mod Spaced
pub mod Marked
