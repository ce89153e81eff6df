pub mod FirstLemmas
pub mod KeptLemmas
pub mod MarkLemmas
pub mod CauseLemmas
pub mod JudgingLemmas
pub mod NoteLemmas
