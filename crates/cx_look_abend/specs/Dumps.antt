-- The DFHEISTG of a level as it is at an abend (own).
use Rattle.std.specs.Prelude.{◌≡◌, ℕ, min, MatchBool, MatchOption, Option, Some, None, List, [], ◌∷◌, ◌++◌, codes, length, map}
use Rattle.std.specs.Option.{option_map}
use Rattle.cx_base.specs.Digits.{digits}
use Rattle.cx_base.specs.Texts.{shown_name}
use Rattle.cx_exec.specs.Machine.{Machine}
use Rattle.cx_program.specs.declared.level.Level.{Level}
use Rattle.cx_storage.specs.Address.{address_in}
use Rattle.cx_storage.specs.Storage.{Storage, span}
use Rattle.cx_region.specs.State.{RegionState}
use Rattle.cx_region.specs.Tables.{task_of}
use Rattle.cx_region_state.specs.State.{TaskState}
use Rattle.cx_region_task.specs.Turn.{most_steps}
use Rattle.cx_look_turn.specs.NextTurn.{task_machine}
use Rattle.cx_look_turn.specs.Traces.{Leaves}
use Rattle.cx_look_lines.specs.Words.{look_line, or_none, Lines}
use Rattle.cx_look_storage.specs.Bytes.{row_lines}
use Rattle.cx_look_symbols.specs.Sources.{Sources, source_lines}
use Rattle.cx_look_fields.specs.KeptFields.{kept_fields}

-- the level's program, the address of the first byte, and the bytes
pub record Dump : Type 0 where
  pub program : List ℕ
  pub at : ℕ
  pub bytes : List ℕ

-- so many bytes from an address on, of a level of this program, where all of them are in storage
abbrev pub dump_at : Storage → List ℕ → ℕ → ℕ → Option Dump
dump_at s program at n = option_map (λ bytes. record { program = program; at = at; bytes = bytes }) (span s at n)

-- a level's DFHEISTG; no program has one of more than 65,520 bytes
unfoldable pub dump_in : Storage → Level → Option Dump
dump_in s level = dump_at s level.program (address_in level.stg) (min level.stg_len 65520)

-- ---- at the abend
-- the machine at an abend to which a task's turn leads: as the command found it that is due, else as the instructions
-- of the turn leave it
unfoldable pub IsAtAbend : Storage → TaskState → Machine → Type 0
IsAtAbend s task m = MatchBool task.due (m ≡ task_machine s task) (Leaves most_steps (task_machine s task) m)

-- the DFHEISTG of the current level then
pub record HasDump (s : Storage) (task : TaskState) (dump : Option Dump) : Type 0 where
  pub machine : Machine
  pub reached : IsAtAbend s task machine
  pub is : dump ≡ dump_in machine.storage task.levels.current

-- of a terminal's task, where there is one
unfoldable pub TurnHasDump : RegionState → List ℕ → Option Dump → Type 0
TurnHasDump region name dump =
    MatchOption (task_of region name) (dump ≡ None) (λ task. HasDump region.shared.storage task dump)

-- ---- as it is written: its address and its length, and its rows, as STORAGE has them
unfoldable pub dump_lines : Dump → Lines
dump_lines dump =
    look_line (codes "DFHEISTG" ∷ digits 16 6 dump.at ∷ codes "LENGTH" ∷ digits 16 6 (length dump.bytes) ∷ [])
    ++ row_lines dump.at (map Some dump.bytes)

-- ---- its fields, by the source of the level's program, as FIELDS has them
abbrev pub field_lines : Sources → List ℕ → Dump → Lines
field_lines sources term dump =
    or_none (codes "FIELDS " ++ shown_name term)
    (kept_fields term (source_lines sources dump.program) dump.at dump.bytes)
