-- The definitions, in reading order, then what the laws state.
pub mod Uses
pub mod Areas
pub mod Bytes
pub mod Laws
pub mod Parts
