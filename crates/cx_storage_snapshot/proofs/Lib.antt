pub mod CopyLemmas
pub mod OverLemmas
pub mod SameLemmas
pub mod WriteLemmas
