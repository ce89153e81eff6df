pub mod NameLemmas
pub mod PoolLemmas
pub mod UseLemmas
pub mod StepLemmas
