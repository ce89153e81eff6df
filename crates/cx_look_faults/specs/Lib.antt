-- The definitions, in reading order, and what the law states.
pub mod Spans
pub mod Judging
pub mod Operands
pub mod Beside
pub mod Faults
pub mod Kept
pub mod Commands
pub mod Marks
pub mod Notes
pub mod Laws
pub mod Parts
pub use Rattle.cx_asm_build.specs.Kinds
pub use Rattle.cx_asm_build.specs.Prepared
