pub mod LayoutLemmas
pub mod SymbolLemmas
pub mod LengthLemmas
pub mod TableLemmas
pub mod TakeLemmas
pub mod FirstLemmas
