pub mod TextLemmas
pub mod SizeLemmas
pub mod ListLemmas
pub mod PartLemmas
