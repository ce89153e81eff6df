-- What is noted of each instruction of a run (own).
use Rattle.std.specs.Prelude.{◌≡◌, ℕ, List, fold}
use Rattle.std.specs.List.{AllByRecursion}
use Rattle.cx_storage.specs.Storage.{Storage, IsSoundStorage}
use Rattle.cx_exec.specs.Machine.{Machine}
use Rattle.cx_exec.specs.Passages.{Passage, Passages}

-- what is held after a passage: its instruction is noted, with the storage that it leaves
abbrev pub after_passage : {V : Type 0} → (Storage → ℕ → V → V) → V → Passage → V
after_passage noted held p = noted p.after.storage p.before.next held

abbrev pub LeavesSound : Passage → Type 0
LeavesSound p = IsSoundStorage p.after.storage

-- after a run of at most so many steps, each of which leaves sound storage
pub record IsWatched {V : Type 0} (noted : Storage → ℕ → V → V) (limit : ℕ) (m : Machine) (old new : V) : Type 0 where
  pub passages : List Passage
  pub are : Passages limit m passages
  pub sound : AllByRecursion LeavesSound passages
  pub is : new ≡ fold (after_passage noted) old passages
