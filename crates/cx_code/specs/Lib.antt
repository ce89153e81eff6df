-- The definitions, in reading order.
pub mod Table
pub mod Spelling
pub mod Reading
pub mod Lines
pub mod Text
-- Words of private functions.
pub mod Parts
