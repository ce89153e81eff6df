-- The statements of laws.
pub mod Displays
pub mod Edf
pub mod Memory
pub mod Outcomes
pub mod Watched
