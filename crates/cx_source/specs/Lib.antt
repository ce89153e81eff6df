pub mod Lines
pub mod Marks
pub mod Statements
pub mod Faults
pub mod Mended
pub mod Reader
pub mod Facts
pub use Rattle.cx_ebcdic.specs.Characters
