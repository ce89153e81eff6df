-- The definitions, in reading order.
pub mod Words
pub mod Alterations
pub mod Actions
pub mod Language
pub mod Allowed
pub mod Texts
pub mod Effects
pub mod Laws
