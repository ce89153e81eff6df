pub mod TraceLemmas
pub mod RunLemmas
pub mod PassLemmas
mod NextTurnLemmas
mod LeaveLemmas
mod AfterLemmas
