-- The vocabulary of private functions.
pub mod Faulty
pub mod Checking
pub mod Passing
