-- Words of private functions.
pub mod Next
pub mod Seen
pub mod Words
pub mod Callers
