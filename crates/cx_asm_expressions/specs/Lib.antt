pub mod Faults
pub mod Digits
pub mod Names
pub mod Symbols
pub mod Texts
pub mod Terms
pub mod TermValues
pub mod Weights
pub mod Expressions
pub mod Fields
pub mod Kinds
pub mod Items
pub mod Bytes
pub mod Laws
-- Lemmas for the crates above.
pub mod Facts
-- Words of private functions.
pub mod Parts
pub use Rattle.cx_ebcdic.specs.Characters
pub use Rattle.cx_ebcdic.specs.Names as NameBytes
