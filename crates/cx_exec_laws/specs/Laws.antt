-- The statements that the module `laws` promises.
pub mod Decide
pub mod Areas
pub mod Rows
pub mod Interruptions
pub mod Numbers
pub mod Strings
pub mod Passages
