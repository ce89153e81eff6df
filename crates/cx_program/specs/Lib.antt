pub mod Entries
pub mod Handles
pub mod Levels
pub mod Lending
pub mod Facts
pub use Rattle.cx_base.specs.Conditions
pub use Rattle.cx_ebcdic.specs.Names
