-- Statements of laws.
pub mod FirstFaults
pub mod Apart
pub mod Definitions
