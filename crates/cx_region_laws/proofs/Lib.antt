mod OthersLemmas
mod ClearLemmas
mod AppliedLemmas
mod WrittenLemmas
mod EndedLemmas
mod CommandLemmas
mod ExitLemmas
mod RowLemmas
mod LevelLemmas
mod CallerLemmas
mod RunLemmas
mod TaskMemoryLemmas
mod ReturnLemmas
mod DueLemmas
mod TakenLemmas
mod StandLemmas
mod PointerLemmas
mod StayingLemmas
mod EibLemmas
mod MadeLemmas
mod MetLemmas
mod ReportLemmas
mod CalenLemmas
mod EntryLemmas
mod CommareaLemmas
mod AttachLemmas
pub mod KeepsLemmas
pub mod AlterLemmas
pub mod DecideLemmas
pub mod RunLawLemmas
pub mod MemoryLemmas
pub mod LoadedLemmas
pub mod EndingLemmas
pub mod StepOutcomeLemmas
pub mod OutcomeLemmas
pub mod SoundLemmas
