-- The vocabulary of private functions.
pub mod Change
pub mod Runs
pub mod Reach
pub mod Frame
pub mod Page
pub mod Directory
pub mod Shown
pub mod Slots
