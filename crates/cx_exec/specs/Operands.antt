-- Operands, and what interrupts their fetch (GA22-7000, "Program Interruption").
use Rattle.std.specs.Prelude.{ℕ, ◌%◌, List, length, ◌==◌, Option, MatchBool, MatchOption}
use Rattle.std.specs.Option.{option_map}
use Rattle.cx_storage.specs.Storage.{Storage, span, after_write}
use Rattle.cx_storage.specs.Word.{halfword_at}
use Rattle.cx_exec.specs.declared.machine.Interruption.TheVariants as interruption
use Rattle.cx_exec.specs.declared.machine.Updated.{Updated}
use Rattle.cx_exec.specs.Machine.{Machine}
use Rattle.cx_exec.specs.Numbers.{extend_sign}
use Rattle.cx_exec.specs.Outcome.{Outcome, Completes, IsSuppressed}

-- the operand's bytes are present, or addressing is the interruption
abbrev pub IfPresent : {A : Type 0} → Option A → Machine → Outcome → Machine → (A → Type 0) → Type 0
IfPresent operand m outcome after effect =
    MatchOption operand (IsSuppressed interruption.Addressing m outcome after) effect

-- the first register of a pair is even, or specification is the interruption
abbrev pub IfEven : ℕ → Machine → Outcome → Machine → Type 0 → Type 0
IfEven r m outcome after effect =
    MatchBool (r % 2 == 0) effect (IsSuppressed interruption.Specification m outcome after)

-- the halfword at an address, extended to a word by its sign
unfoldable pub extended_at : Storage → ℕ → Option ℕ
extended_at s a = option_map extend_sign (halfword_at s a)

-- bytes are stored, all of them or, where one of their places is absent, none, and a condition code is left
unfoldable pub Stores : ℕ → List ℕ → ℕ → Updated → Machine → Outcome → Machine → Type 0
Stores a bytes cc updated m outcome after =
    IfPresent (span m.storage a (length bytes)) m outcome after
    (λ _. Completes outcome after
    (record m { storage = after_write m.storage a bytes; cc = cc; next = updated.address }))
