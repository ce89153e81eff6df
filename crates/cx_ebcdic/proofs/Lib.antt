pub mod TableLemmas
pub mod CodedLemmas
pub mod AidLemmas
pub mod CharacterLemmas
