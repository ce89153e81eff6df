-- Words of private functions.
pub mod Runs
