pub mod ChoiceLemmas
pub mod KeyLemmas
pub mod NameLemmas
pub mod ReadLemmas
pub mod SetLemmas
