-- The definitions, in reading order.
pub mod References
pub mod Given
pub mod Literals
pub mod Usings
pub mod Texts
pub mod Parts
pub use Rattle.cx_look_symbols.specs.Texts as SymbolTexts
