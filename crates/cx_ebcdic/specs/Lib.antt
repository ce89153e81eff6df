-- The definitions, in reading order, and then the facts.
pub mod Lookup
pub mod Characters
pub mod Names
pub mod Aids
pub mod Facts
