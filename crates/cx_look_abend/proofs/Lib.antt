pub mod CallerLemmas
pub mod DumpLemmas
pub mod FieldLemmas
pub mod KeptLemmas
