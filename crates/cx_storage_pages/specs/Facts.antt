-- Proved facts of the words of private functions.
pub mod Runs
pub mod Reach
pub mod Shown
pub mod Slots
