-- The vocabulary of private functions.
pub mod Words
