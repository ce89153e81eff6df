pub mod AllFaultsLemmas
mod FirstLemmas
mod AnswerLemmas
mod FitLemmas
mod SectionLemmas
mod WithinLemmas
mod MadeLemmas
pub mod DueLemmas
pub mod JoinLemmas
pub mod FaultLemmas
pub mod RoleLemmas
