-- The definitions, in reading order, and then the facts.
pub mod Words
pub mod Registers
pub mod Marked
pub mod Facts
pub mod Parts
