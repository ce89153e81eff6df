-- The vocabulary of private functions: no public contract reaches it.
pub mod Fits
pub mod Room
