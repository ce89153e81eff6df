pub mod TableLemmas
pub mod SpellingLemmas
pub mod ReadingLemmas
pub mod LawLemmas
