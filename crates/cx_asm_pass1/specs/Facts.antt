-- Lemmas for the crates above.
pub mod StatementExtents
pub mod Faults
pub mod Apart
pub mod Kept
pub mod Definitions
pub mod First
pub mod AllFaults
