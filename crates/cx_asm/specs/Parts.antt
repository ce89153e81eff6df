-- Words of private functions.
pub mod Kept
pub mod Passing
