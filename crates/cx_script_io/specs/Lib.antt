-- The definitions, in reading order.
pub mod Calls
pub mod Devices
pub mod Input
pub mod Lines
pub mod Unbroken
pub mod Laws
pub mod Facts
