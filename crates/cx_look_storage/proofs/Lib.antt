pub mod AreaLemmas
pub mod ByteLemmas
pub mod LevelLemmas
pub mod MetLemmas
