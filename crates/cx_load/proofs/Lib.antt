pub mod ApartLemmas
pub mod RelocateLemmas
pub mod LoadLemmas
