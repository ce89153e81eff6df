-- A machine that is about to perform instructions, none of which lies in a list.
use Rattle.std.proofs.Common.{◌≡◌, ◌≢◌, ℕ, ◌*◌, ◌%◌, ◌^◌, ◌<◌, ◌≤◌, List, length, true, is_some}
use Rattle.cx_storage.specs.Storage.{Storage, byte_at, span}
use Rattle.cx_storage.specs.Address.{address_after, distance}
use Rattle.cx_storage.specs.Laws.Sound.{SoundKept}
use Rattle.cx_storage.specs.Laws.Words.{WordAfterWrite}
use Rattle.cx_code.specs.Table.{length_of}
use Rattle.cx_code.specs.Spelling.{Instruction, IsWellFormed, spelling, Spells}
use Rattle.cx_exec.specs.Machine.{Machine}
use Rattle.cx_exec.specs.Step.{entry}
use Rattle.cx_exec.specs.Laws.Fetch.{SpelledIsFetched}
use Rattle.cx_exec.specs.Laws.Runs.{StepsJoin}
use Rattle.cx_asm_execution.specs.Stands.{IsMachine, AreAt, IsApart, code_length, list_length}

-- the laws of the crates below that are used here
pub record Known : Type 0 where
  pub spells : (i : Instruction) → IsWellFormed i → Spells i (spelling i)
  pub size : (i : Instruction) → IsWellFormed i → length (spelling i) ≡ length_of i.op
  pub fetched : SpelledIsFetched
  pub joined : StepsJoin
  pub sound : SoundKept
  pub words : WordAfterWrite

-- all bytes outside DFHEIPL are alike
abbrev pub Agree : ℕ → Storage → Storage → Type 0
Agree list s t = (x : ℕ) → x < 2 ^ 24 → list_length ≤ distance list x → byte_at t x ≡ byte_at s x

pub record Ready (list : ℕ) (code : List Instruction) (m : Machine) : Type 0 where
  pub machine : IsMachine m
  pub even : m.next % 2 ≡ 0
  pub there : is_some (span m.storage list list_length) ≡ true
  pub stands : AreAt m.storage m.next code
  pub apart : IsApart list m.next (code_length code)
  pub outside : (k : ℕ) → k < length code → address_after m.next (4 * k) ≢ entry
