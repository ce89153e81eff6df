pub mod HandleLemmas
pub mod LevelLemmas
pub mod SnapshotLemmas
