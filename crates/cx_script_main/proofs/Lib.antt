pub mod WordLemmas
pub mod KeepLemmas
pub mod LineLemmas
pub mod StartLemmas
