-- The definitions, in reading order.
pub mod Expansion
pub mod Stands
pub mod Arrives
pub mod Laws
pub mod FieldLayouts
pub mod MadeLines
pub mod Arguments
pub mod Arrival
