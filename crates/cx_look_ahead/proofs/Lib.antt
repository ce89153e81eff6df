pub mod GapLemmas
pub mod RowLemmas
pub mod AheadLemmas
pub mod ArrivalLemmas
pub mod AtLemmas
mod ByteLemmas
mod NameLemmas
pub mod WriteLemmas
pub mod LineLemmas
mod DoneLemmas
mod AfterLemmas
