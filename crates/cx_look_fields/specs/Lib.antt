-- The definitions, in reading order, then what the laws state.
pub mod Numbers
pub mod Readings
pub mod Texts
pub mod Levels
pub mod Tasks
pub mod Fields
pub mod FieldTexts
pub mod Nearest
pub mod Addresses
pub mod KeptFields
pub mod Laws
pub mod Parts
