-- Words for private functions and for how values are kept; no public contract cites them.
pub mod LineSteps
pub mod NameBytes
