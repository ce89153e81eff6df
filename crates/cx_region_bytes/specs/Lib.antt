-- The definitions, in reading order.
pub mod Rows
