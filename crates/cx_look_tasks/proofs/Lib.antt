pub mod LineLemmas
pub mod WaitLemmas
pub mod TextLemmas
pub mod DecideLemmas
