pub mod ItemLemmas
pub mod ShownLemmas
