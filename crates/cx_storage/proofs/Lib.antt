pub mod AreaLemmas
pub mod WriteLemmas
pub mod PlaceLemmas
pub mod WordLemmas
pub mod Filling
pub mod Walks
