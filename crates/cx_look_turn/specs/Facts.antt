-- Lemmas that other crates cite.
pub mod Left
pub mod Visits
