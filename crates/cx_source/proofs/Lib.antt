pub mod LineLemmas
pub mod ReaderLemmas
