-- The vocabulary of private functions: no public contract reaches it.
pub mod Altering
pub mod Asking
pub mod Loading
pub mod Placing
pub mod Turning
