-- Lemmas that other crates cite.
pub mod Outcomes
pub mod Steps
pub mod Decides
