-- The definitions, in reading order, then what the laws state.
pub mod Commands
pub mod Looks
pub use Rattle.cx_look_lines.specs.Words
pub mod Activities
pub mod Tasks
pub mod Laws
pub mod Parts
pub use Rattle.cx_region.specs.Looking
