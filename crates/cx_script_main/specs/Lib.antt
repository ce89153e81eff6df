-- The definitions, in reading order.
pub mod Words
pub mod Program
pub mod Shown
pub mod Start
pub mod Parts
