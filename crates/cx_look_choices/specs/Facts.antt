-- Lemmas that other crates cite: presses lead as their moves do, and one text is written of a region.
pub mod Presses
pub mod Rows
pub mod Decides
