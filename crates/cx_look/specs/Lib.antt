-- The definitions, in reading order.
pub mod Looks
pub mod Orders
pub mod Sets
pub mod Choices
pub mod Laws
pub mod Parts
pub use Rattle.cx_script_actions.specs.Actions
pub use Rattle.cx_script_actions.specs.Words
