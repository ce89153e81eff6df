-- The statements of laws on execution, and lemmas that other crates cite.
pub mod Laws
pub mod Facts
