-- Lemmas and words for the crates above.
pub mod AllFaults
pub mod Found
pub mod Arguments
pub mod Mended
