pub mod DecideLemmas
pub mod InterruptLemmas
pub mod LawLemmas
pub mod StringLaws
pub mod PassageLemmas
