pub mod RowLemmas
pub mod StatementLemmas
pub mod LineLemmas
pub mod ReadingLemmas
pub mod SpotLemmas
