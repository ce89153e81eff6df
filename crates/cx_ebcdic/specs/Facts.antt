-- Proved facts that other crates cite.
pub mod Lookup
pub mod Names
