-- The definitions, and words of private functions.
pub mod Pages
pub mod Parts
pub mod Facts
