-- Lemmas that other crates cite.
pub mod Items
pub mod Lists
pub mod Soonest
