-- WATCH: ranges of bytes, and what is written where one of them changes (own).
use Rattle.std.specs.Prelude.{◌≡◌, ℕ, Bool, MatchBool, nat_le, if◌then◌else◌, Option, List, [], ◌∷◌, ◌++◌, codes, length, map, slice_index}
use Rattle.std.specs.Fmt.{decimal}
use Rattle.std.specs.Option.{option_map_or}
use Rattle.std.specs.Str.{bytes_eq}
use Rattle.cx_base.specs.Digits.{digits}
use Rattle.cx_base.specs.Texts.{shown_name}
use Rattle.cx_storage.specs.Address.{address_in}
use Rattle.cx_storage.specs.Storage.{Storage}
use Rattle.cx_exec.specs.Machine.{Machine}
use Rattle.cx_load.specs.declared.program.Loaded.{Loaded}
use Rattle.cx_region_state.specs.State.{TaskState}
use Rattle.cx_region_task.specs.Turn.{most_steps}
use Rattle.cx_region.specs.State.{RegionState}
use Rattle.cx_region.specs.Tables.{task_of}
use Rattle.cx_look_lines.specs.Words.{Lines, look_line}
use Rattle.cx_look_symbols.specs.Places.{address_word, place_at_address, spot_before}
use Rattle.cx_look_symbols.specs.Sources.{Sources, statement_at}
use Rattle.cx_look_symbols.specs.declared.places.Place.{Place}
use Rattle.cx_look_turn.specs.NextTurn.{task_machine}
use Rattle.cx_look_turn.specs.Traces.{Leaves}
use Rattle.cx_look_ahead.specs.Ahead.{bytes_word}
use Rattle.cx_look_ahead.specs.Writers.{LastWriter}
use Rattle.cx_look_ahead.specs.declared.rows.Row.{Row}
use Rattle.cx_look_ahead.specs.declared.watching.Cause.{Cause}
use Rattle.cx_look_ahead.specs.declared.watching.Cause.TheVariants as cause
use Rattle.cx_look_ahead.specs.declared.watching.Kept.{Kept}
use Rattle.cx_look_ahead.specs.declared.writers.Work.{Work}
use Rattle.cx_look_ahead.specs.declared.writers.Work.TheVariants as work

-- ---- a change
-- what is done, in the words of its line
abbrev pub cause_word : Cause → List ℕ
cause_word (cause.Turn name) = codes "TURN " ++ shown_name name
cause_word (cause.Key name) = codes "KEY " ++ shown_name name
cause_word (cause.Alter name) = codes "ALTER " ++ shown_name name
cause_word (cause.Program name) = codes "PROGRAM " ++ shown_name name
cause_word cause.Other = codes "ANOTHER LINE"

-- the bytes of a range in hexadecimal digits; hyphens for one that isn't there
abbrev pub shown_in : Storage → Row → List ℕ
shown_in storage range = bytes_word storage range.at range.length

abbrev pub kept_in : Storage → Row → Kept
kept_in storage range = record { range = range; bytes = shown_in storage range }

-- ---- what changed it
-- a task's next turn performs the command that is due, which leads back to the address in register 14, or it runs
-- instructions from a machine on
abbrev pub next_work : Storage → TaskState → Work
next_work storage task =
    if task.due then work.Command (address_in (slice_index task.regs 14))
    else work.Instructions (task_machine storage task)

-- what is done next at a region does so where it is the turn of a terminal with a task
abbrev pub work_of : RegionState → Cause → Work
work_of region (cause.Turn name) = option_map_or (next_work region.shared.storage) (task_of region name) work.Nothing
work_of region _ = work.Nothing

-- a statement by its line, or where there is none an address
abbrev pub line_or : Option (List ℕ) → List ℕ → Place → List ℕ
line_or statement words place = option_map_or (λ it. codes " LINE " ++ it) statement (words ++ address_word place)

-- the statement that has an instruction
unfoldable pub instruction_word : Sources → List (List ℕ × Loaded) → ℕ → List ℕ
instruction_word sources programs at =
    let place = place_at_address programs at in line_or (statement_at sources place.spot) (codes " INSTRUCTION ") place

-- and that of a command's EXEC, which has the byte before the address in register 14
unfoldable pub command_word : Sources → List (List ℕ × Loaded) → ℕ → List ℕ
command_word sources programs back =
    line_or (statement_at sources (spot_before programs back)) (codes " R14 ") (place_at_address programs back)

-- What an action did: what it is called, what a turn did, and the sources, the programs and the storage after it.
pub record ActionEffect : Type 0 where
  pub by : Cause
  pub done : Work
  pub sources : Sources
  pub programs : List (List ℕ × Loaded)
  pub storage : Storage

-- the last of these instructions that changed a byte of a range, and nothing where none did; or the abend, where the
-- instructions leave other bytes than are there after the turn
pub record IsOfRun (sources : Sources) (programs : List (List ℕ × Loaded)) (range : Row) (m : Machine) (after : Storage)
    (word : List ℕ) : Type 0 where
  pub at : Option ℕ
  pub last : LastWriter most_steps m range at
  pub left : Machine
  pub leaves : Leaves most_steps m left
  pub is : word
      ≡ (if bytes_eq (shown_in left.storage range) (shown_in after range)
      then option_map_or (instruction_word sources programs) at [] else codes " ABEND")

-- what changed a byte of a range last, after the words for the action
unfoldable pub IsStatement : Sources → List (List ℕ × Loaded) → Row → Work → Storage → List ℕ → Type 0
IsStatement sources programs range work.Nothing after word = word ≡ []
IsStatement sources programs range (work.Command back) after word = word ≡ command_word sources programs back
IsStatement sources programs range (work.Instructions m) after word = IsOfRun sources programs range m after word

-- the line of a range whose bytes are no longer as they were
unfoldable pub change_line : ActionEffect → Kept → List ℕ → Lines
change_line effect kept statement =
    look_line
    (codes "WATCH" ∷ digits 16 6 kept.range.at ∷ decimal kept.range.length ∷ codes "FROM" ∷ kept.bytes ∷ codes "TO"
    ∷ shown_in effect.storage kept.range ∷ codes "BY" ∷ (cause_word effect.by ++ statement) ∷ [])

pub record IsChange (effect : ActionEffect) (kept : Kept) (lines : Lines) : Type 0 where
  pub statement : List ℕ
  pub last : IsStatement effect.sources effect.programs kept.range effect.done effect.storage statement
  pub are : lines ≡ change_line effect kept statement

-- and of one whose bytes are as they were none
unfoldable pub AreOfRange : ActionEffect → Kept → Lines → Type 0
AreOfRange effect kept lines =
    MatchBool (bytes_eq kept.bytes (shown_in effect.storage kept.range)) (lines ≡ []) (IsChange effect kept lines)

-- those of all ranges
unfoldable pub AreOfRanges : ActionEffect → List Kept → Lines → Type 0
AreOfRanges effect [] lines = lines ≡ []
AreOfRanges effect (kept ∷ more) lines =
    (first rest : Lines) × AreOfRange effect kept first × AreOfRanges effect more rest × (lines ≡ first ++ rest)

-- those that are watched, with their bytes in a storage before
abbrev pub AreChanges : List Row → Storage → ActionEffect → Lines → Type 0
AreChanges ranges before effect lines = AreOfRanges effect (map (kept_in before) ranges) lines

-- ---- one range more
-- at most sixteen are watched
abbrev pub is_full : List Row → Bool
is_full ranges = nat_le 16 (length ranges)

abbrev pub with_range : List Row → Row → List Row
with_range ranges range = if is_full ranges then ranges else ranges ++ range ∷ []

abbrev pub begun_watch : List Row → Storage → Row → Lines
begun_watch ranges storage range =
    look_line
    (codes "WATCH" ∷ digits 16 6 range.at ∷ decimal range.length
    ∷ (if is_full ranges then codes "REFUSED" ∷ codes "Full" ∷ [] else codes "IS" ∷ shown_in storage range ∷ []))
