-- The definitions, in reading order, then what the laws state.
pub mod Traces
pub mod NextTurn
pub mod Laws
pub mod Facts
pub mod Parts
