pub mod FaultLemmas
pub mod PlaceLemmas
pub mod ItemLemmas
