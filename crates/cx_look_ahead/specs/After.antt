-- AHEAD AFTER: what a terminal's task has in the middle of its next turn, after so many of its instructions (own).
use Rattle.std.specs.Prelude.{◌≡◌, ℕ, ◌+◌, Option, List, [], ◌∷◌, ◌++◌, codes, length, reverse}
use Rattle.std.specs.Fmt.{decimal}
use Rattle.std.specs.Option.{option_map_or}
use Rattle.cx_base.specs.Digits.{digits}
use Rattle.cx_base.specs.Texts.{shown_name}
use Rattle.cx_exec.specs.Machine.{Machine}
use Rattle.cx_load.specs.declared.program.Loaded.{Loaded}
use Rattle.cx_program.specs.Levels.{all_levels}
use Rattle.cx_program.specs.declared.level.Level.{Level}
use Rattle.cx_region_state.specs.State.{TaskState}
use Rattle.cx_region.specs.State.{RegionState}
use Rattle.cx_region.specs.Tables.{task_of}
use Rattle.cx_storage.specs.Storage.{Storage}
use Rattle.cx_look_lines.specs.Registers.{register_lines}
use Rattle.cx_look_lines.specs.Words.{Lines, look_line}
use Rattle.cx_look_symbols.specs.Places.{spot_of}
use Rattle.cx_look_symbols.specs.Sources.{Sources, source_lines}
use Rattle.cx_look_fields.specs.Fields.{calling}
use Rattle.cx_look_fields.specs.FieldTexts.{fields_there}
use Rattle.cx_look_fields.specs.declared.standing.Standing.{Standing}
use Rattle.cx_look_ahead.specs.Instructions.{visit_line}
use Rattle.cx_look_turn.specs.NextTurn.{IsMachineAfter, machine_ahead}
use Rattle.cx_look_turn.specs.Traces.{visit}

-- ---- the first line: what is asked, of how many instructions, and the condition code then
abbrev pub after_line : List ℕ → List ℕ → ℕ → List ℕ → Lines
after_line name what n word = look_line (codes "AHEAD" ∷ shown_name name ∷ what ∷ decimal n ∷ word ∷ [])

abbrev pub reached_line : List ℕ → List ℕ → ℕ → Machine → Lines
reached_line name what n m = after_line name what n (codes "CC " ++ digits 10 1 m.cc)

-- NONE where the turn does fewer instructions
pub record AfterText (region : RegionState) (name what : List ℕ) (n : ℕ) (then_lines : Machine → Lines) (lines : Lines)
    : Type 0 where
  pub there : Option Machine
  pub reached : IsMachineAfter (machine_ahead region name) n there
  pub is : lines
      ≡ option_map_or (λ m. reached_line name what n m ++ then_lines m) there (after_line name what n (codes "NONE"))

-- ---- AHEAD term AFTER n: the instruction that comes next, and the registers
abbrev pub state_lines : Sources → List (List ℕ × Loaded) → Machine → Lines
state_lines sources programs m = visit_line sources programs (visit m) ++ register_lines m.regs

-- ---- AHEAD term FIELDS AFTER n: of each level, the highest first, its number, its program, and its fields as they are
-- then
abbrev pub level_fields : Sources → Storage → List ℕ → ℕ → Standing → Lines
level_fields sources s name k standing =
    look_line (codes "LEVEL" ∷ digits 10 2 k ∷ codes "PROGRAM" ∷ shown_name standing.program ∷ [])
    ++ fields_there s (source_lines sources standing.program) name standing

-- levels that have called another, from the number k on: they stand where they did
unfoldable pub caller_fields : Sources → List (List ℕ × Loaded) → Storage → List ℕ → ℕ → List Level → Lines
caller_fields sources programs s name k [] = []
caller_fields sources programs s name k (level ∷ levels) =
    level_fields sources s name k (calling programs level) ++ caller_fields sources programs s name (k + 1) levels

-- the current level is at the instruction that comes next
abbrev pub current_there : List (List ℕ × Loaded) → TaskState → Machine → Standing
current_there programs task m =
    record { program = task.levels.current.program; regs = m.regs; spot = spot_of programs m.next }

abbrev pub task_fields : Sources → List (List ℕ × Loaded) → List ℕ → Machine → TaskState → Lines
task_fields sources programs name m task =
    caller_fields sources programs m.storage name 1 (reverse task.levels.callers)
    ++ level_fields sources m.storage name (length (all_levels task.levels)) (current_there programs task m)

abbrev pub fields_lines : Sources → RegionState → List ℕ → Machine → Lines
fields_lines sources region name m =
    option_map_or (task_fields sources region.shared.programs name m) (task_of region name) []
