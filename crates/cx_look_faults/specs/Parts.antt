-- The vocabulary of private functions.
pub mod Names
pub mod Sources
pub mod Tests
