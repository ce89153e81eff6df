pub mod KeyLemmas
pub mod MoveLemmas
pub mod RunLemmas
mod TypedLemmas
