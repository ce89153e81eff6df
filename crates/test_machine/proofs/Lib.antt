pub mod GraphLemmas
