-- Lemmas that other crates cite.
pub mod Lines
pub mod Calls
pub mod Devices
