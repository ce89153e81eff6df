-- The definitions, in reading order.
pub mod Kinds
pub mod Prepared
pub mod Facts
pub use Rattle.cx_source.specs.Faults
pub use Rattle.cx_source.specs.Reader
pub use Rattle.cx_translate.specs.Translation
pub use Rattle.cx_asm.specs.Assembly
pub use Rattle.cx_code.specs.Text
