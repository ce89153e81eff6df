-- The definitions, in reading order.
pub mod Rest
pub mod Outcomes
pub mod Report
pub mod Laws
pub mod Facts
pub use Rattle.cx_look_lines.specs.Words
pub mod Parts
