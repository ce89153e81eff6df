pub mod KeptLemmas
pub mod StageLemmas
