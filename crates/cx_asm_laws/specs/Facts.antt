-- Lemmas for the crates above.
pub mod Lines
pub mod Judged
pub mod Plain
pub mod Hexadecimals
