-- Lemmas that other crates cite.
pub mod Lookups
pub mod Tables
pub mod Replicas
pub mod Commands
pub mod Conditions
