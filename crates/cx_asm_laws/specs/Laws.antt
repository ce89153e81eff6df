-- Statements of laws.
pub mod Again
pub mod Back
pub mod Standing
