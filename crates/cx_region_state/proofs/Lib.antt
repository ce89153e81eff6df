pub mod CallLemmas
pub mod CallLawLemmas
pub mod ListedLemmas
pub mod ListedLawLemmas
pub mod OutputLemmas
