mod ActingLemmas
mod MoveLemmas
mod RunLemmas
mod SettlingLemmas
mod NumberLemmas
