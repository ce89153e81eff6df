-- The statements of laws.
pub mod Choices
pub mod Covers
pub mod Looks
pub mod Marks
pub mod Notes
pub mod Orders
pub mod Outcomes
pub mod Scripts
pub mod Turns
pub mod Watches
