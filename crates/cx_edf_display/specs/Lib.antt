-- The definitions, in reading order.
pub mod Texts
pub mod Displays
