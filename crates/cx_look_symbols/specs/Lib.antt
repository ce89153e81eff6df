-- The definitions, in reading order.
pub mod Placed
pub mod Symbols
pub mod Names
pub mod Texts
pub mod Statements
pub mod Lines
pub mod Places
pub mod Sources
-- Statements of laws.
pub mod Laws
pub mod Parts
pub use Rattle.cx_look_lines.specs.Words
