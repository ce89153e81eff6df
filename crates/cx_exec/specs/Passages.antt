-- The instructions that a run comes to, each with what it leaves (own).
use Rattle.std.specs.Prelude.{◌≡◌, ℕ, zero, suc, Bool, true, false, ◌&&◌, not, ◌==◌, if◌then◌else◌, Option, None, option_map, List, [], ◌∷◌}
use Rattle.std.specs.List.{cons_option}
use Rattle.std.specs.Option.{option_map_or}
use Rattle.cx_storage.specs.Address.{address_after}
use Rattle.cx_storage.specs.Storage.{byte_at, span}
use Rattle.cx_code.specs.Reading.{base_at, displacement_at, right_half}
use Rattle.cx_code.specs.Table.{length_of_code}
use Rattle.cx_exec.specs.Machine.{Machine, effective}
use Rattle.cx_exec.specs.Step.{Steps}
use Rattle.cx_exec.specs.declared.machine.Step.{Step}
use Rattle.cx_exec.specs.declared.machine.Step.TheVariants.{Done, AtEntry, Interrupt}

-- an instruction that a run comes to: the machine before it, how its step ended, and the machine after it
pub record Passage : Type 0 where
  pub before : Machine
  pub step : Step
  pub after : Machine

abbrev pub passage : Machine → Step → Machine → Passage
passage before step after = record { before = before; step = step; after = after }

-- those from one step on: after one that is done the run goes on, and one that is interrupted is the last
abbrev pub FollowsPassage : Passage → Step → (List Passage → Type 0) → List Passage → Type 0
FollowsPassage one Done GoesOn passages = (more : List Passage) × (passages ≡ one ∷ more) × GoesOn more
FollowsPassage one (Interrupt cause) GoesOn passages = passages ≡ one ∷ []
FollowsPassage one AtEntry GoesOn passages = passages ≡ []

-- those of a run of at most n steps
unfoldable pub Passages : ℕ → Machine → List Passage → Type 0
Passages zero m passages = passages ≡ []
Passages (suc n) m passages =
    (step : Step) × (after : Machine) × Steps m step after
    × FollowsPassage (passage m step after) step (Passages n after) passages

-- ---- where a passage runs an instruction
abbrev pub is_done : Step → Bool
is_done Done = true
is_done _ = false

-- the next instruction is an EX
abbrev pub is_execute_next : Machine → Bool
is_execute_next m = option_map_or (λ code. code == 0x44) (byte_at m.storage m.next) false

-- the second operand's address of an instruction of format RX (GA22-7000, "Execute")
abbrev pub operand_in : List ℕ → List ℕ → ℕ
operand_in regs code = effective regs (right_half code) (base_at 2 code) (displacement_at 2 code)

-- the address of the target of the next instruction, where that is an EX
unfoldable pub target_of : Machine → Option ℕ
target_of m = if is_execute_next m then option_map (operand_in m.regs) (span m.storage m.next 4) else None

-- the address of the instruction, and, where it is an EX that is done, that of its target
unfoldable pub places_run : Passage → List ℕ
places_run p = p.before.next ∷ cons_option (if is_done p.step then target_of p.before else None) []

-- ---- whether it goes elsewhere
-- the address after the next instruction; none where there is no byte of it
unfoldable pub following : Machine → Option ℕ
following m = option_map (λ code. address_after m.next (length_of_code code)) (byte_at m.storage m.next)

-- It is done, and the machine then isn't at what follows it: a branch that is taken, unless it leads to the instruction
-- that follows it.
unfoldable pub went_away : Passage → Bool
went_away p = is_done p.step && option_map_or (λ next. not (p.after.next == next)) (following p.before) false
