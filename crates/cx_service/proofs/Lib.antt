pub mod LineLemmas
pub mod JoinLemmas
pub mod ScreenLemmas
pub mod ItemLemmas
pub mod QueueSound
pub mod ResourceSound
pub mod LawLemmas
pub mod NameLemmas
