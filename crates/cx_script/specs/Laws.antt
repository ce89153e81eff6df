-- The statements of laws.
pub mod WholeScripts
pub mod Fronts
pub mod Inputs
pub mod KnownBytes
pub mod BadLines
pub mod Events
