-- The vocabulary of private functions: no public contract reaches it.
pub mod Making
pub mod Performing
