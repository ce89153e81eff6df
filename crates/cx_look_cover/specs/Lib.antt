-- The definitions, in reading order, then what the laws state.
pub mod Tallies
pub mod Statements
pub mod Counts
pub mod Ranges
pub mod Texts
pub mod Laws
