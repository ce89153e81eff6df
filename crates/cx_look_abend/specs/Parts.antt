-- The vocabulary of private functions.
pub mod Callers
pub mod Texts
pub mod Terminals
pub mod Sources
