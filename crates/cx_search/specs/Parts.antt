-- The vocabulary of private functions.
pub mod Marks
pub mod Searching
