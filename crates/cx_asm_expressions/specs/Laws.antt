-- Statements of laws.
pub mod FaultLaws
