-- The definitions, in reading order, then what the laws state.
pub mod Laws
pub mod Parts
pub mod Rows
pub mod Instructions
pub mod Ahead
pub mod Arrivals
pub mod At
pub mod After
pub use Rattle.cx_look_lines.specs.Words
pub use Rattle.cx_look_turn.specs.Traces
pub use Rattle.cx_look_turn.specs.NextTurn
pub mod Writers
pub mod Watching
pub mod Facts
pub use Rattle.cx_look_ahead.specs.Rows
pub use Rattle.cx_look_ahead.specs.Ahead
