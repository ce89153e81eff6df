-- The definitions, in reading order.
pub mod Dumps
pub mod Abends
pub mod Noting
pub mod Texts
pub mod Laws
pub mod Parts
