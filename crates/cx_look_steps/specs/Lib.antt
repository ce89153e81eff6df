-- The definitions, in reading order.
pub mod Incidents
pub mod Steps
pub mod Script
pub mod Laws
pub mod Facts
pub use Rattle.cx_look_lines.specs.Words
