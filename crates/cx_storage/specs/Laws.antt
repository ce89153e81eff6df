-- The laws of storage, as the functions of the module `laws` promise them.
pub mod Areas
pub mod Spans
pub mod Writes
pub mod Places
pub mod Words
pub mod Sound
