-- The definitions, in reading order.
pub mod Resolved
pub mod Text
pub mod Spans
pub mod Assembled
pub mod Relocated
pub mod Storage
pub mod Listing
pub use Rattle.cx_code.specs.Spelling
pub use Rattle.cx_code.specs.Lines
-- Statements of laws, facts for crates above, and words of private functions.
pub mod Laws
pub mod Facts
pub mod Parts
