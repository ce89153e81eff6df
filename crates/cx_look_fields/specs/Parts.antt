-- The vocabulary of private functions.
pub mod Levels
pub mod Tasks
