-- Lemmas that other crates cite: `runs_keep_areas`, what holds of every row, and tests.
pub mod Tests
pub mod Found
pub mod Effects
pub mod Rows
pub mod Keeps
