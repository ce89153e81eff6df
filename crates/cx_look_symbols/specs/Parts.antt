-- The vocabulary of private functions.
pub mod Rows
pub mod Places
