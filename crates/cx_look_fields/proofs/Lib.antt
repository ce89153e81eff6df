pub mod AddLemmas
pub mod LevelLemmas
pub mod FieldLemmas
pub mod KeptLemmas
pub mod NearestLemmas
