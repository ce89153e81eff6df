-- The definitions, in reading order.
pub mod Stops
pub mod Answers
pub mod Sessions
pub mod State
pub mod Steps
pub mod Erasure
pub mod Runs
pub mod Laws
