-- Lemmas that other crates cite.
pub mod Items
pub mod Loops
