-- Facts for the crates above.
pub mod Apart
