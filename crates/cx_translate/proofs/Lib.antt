pub mod AscentLemmas
pub mod CountLemmas
pub mod KeptLemmas
pub mod ListedLemmas
pub mod PieceLemmas
pub mod ReadLemmas
pub mod RefusalLemmas
