-- The definitions, in reading order.
pub mod Blocks
pub mod Faults
pub mod Status
pub mod Shown
pub use Rattle.cx_script_io.specs.Lines
pub use Rattle.cx_asm_build.specs.Kinds
pub use Rattle.cx_asm_build.specs.Prepared
pub use Rattle.cx_script_actions.specs.Words
pub use Rattle.cx_script_actions.specs.Actions
pub use Rattle.cx_script_actions.specs.Language
