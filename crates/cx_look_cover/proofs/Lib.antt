mod PassageLemmas
mod TallyLemmas
mod SumLemmas
pub mod ExecuteLemmas
mod BranchLemmas
mod RangeLemmas
pub mod CountLemmas
