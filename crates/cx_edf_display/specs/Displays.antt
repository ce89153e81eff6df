-- EDF's displays (own): a main page, the working storage, and the user's screen.
use Rattle.std.specs.Prelude.{ℕ, ◌+◌, ◌-◌, ◌*◌, ◌/◌, ◌^◌, nat_le, nat_lt, if◌then◌else◌, Option, Some, None, List, [], ◌∷◌, ◌++◌, codes, fold, map, min, slice_index}
use Rattle.std.specs.Option.{option_and_then, option_map, option_map_or}
use Rattle.cx_base.specs.Commands.{command_with, row_of}
use Rattle.cx_base.specs.Conditions.{entry_of}
use Rattle.cx_base.specs.Eib.{eib_field}
use Rattle.cx_base.specs.declared.eib.EibField.{EibField}
use Rattle.cx_base.specs.declared.eib.EibField.TheVariants as eib
use Rattle.cx_region.specs.State.{RegionState}
use Rattle.cx_region_state.specs.State.{TaskState}
use Rattle.cx_region.specs.Tables.{task_of, terminal_of}
use Rattle.cx_storage.specs.Address.{address_in, address_after}
use Rattle.cx_storage.specs.Storage.{Storage}
use Rattle.cx_storage.specs.Word.{halfword_at, word_at}
use Rattle.cx_base.specs.Digits.{digits}
use Rattle.cx_base.specs.Pages.{blank_page}
use Rattle.cx_base.specs.Texts.{shown_text}
use Rattle.cx_edf.specs.declared.displays.Display.{Display}
use Rattle.cx_edf_display.specs.declared.seen.Seen.{Seen}
use Rattle.cx_edf.specs.declared.stops.Ending.TheVariants as ending
use Rattle.cx_edf.specs.declared.stops.StopPoint.{StopPoint}
use Rattle.cx_edf.specs.declared.stops.StopPoint.TheVariants as kind
use Rattle.cx_region_bytes.specs.Rows.{bytes_at, character_group, hex_at, hex_group, quarters, row_text}
use Rattle.cx_edf_display.specs.Texts.{with_page_line, with_page_lines}

-- ---- what is seen of a task
abbrev pub seen_of : TaskState → Seen
seen_of task =
    record {
      tran = task.tran;
      program = task.levels.current.program;
      number = task.number;
      eib = task.eib;
      stg = task.levels.current.stg;
      stg_len = task.levels.current.stg_len;
      regs = task.regs;
      cc = task.cc;
      next = task.next;
    }

-- the task of a stop: none where it is over
abbrev pub seen_at : RegionState → List ℕ → StopPoint → Option Seen
seen_at region name (kind.Over how) = None
seen_at region name other = option_map seen_of (task_of region name)

-- ---- the main page: its lines, each with its number and pieces
-- line 1: where there is no task, blanks take the place of its names and its number
abbrev pub heading : List ℕ → List ℕ → List ℕ → List ℕ → List (List ℕ)
heading tran program number terminal =
    codes "TRANSACTION " ∷ tran ∷ codes "  PROGRAM " ∷ program ∷ codes "  TASK " ∷ number ∷ codes "  TERMINAL "
    ∷ terminal ∷ []

abbrev pub task_heading : List ℕ → Option Seen → List (List ℕ)
task_heading name None = heading (codes "    ") (codes "        ") (codes "       ") (shown_text name)
task_heading name (Some task) =
    heading (shown_text task.tran) (shown_text task.program) (digits 10 7 task.number) (shown_text name)

-- line 2
abbrev pub stop_status : StopPoint → List ℕ
stop_status kind.Before = codes "ABOUT TO EXECUTE COMMAND"
stop_status (kind.After condition) = codes "COMMAND EXECUTION COMPLETE"
stop_status (kind.Exit code) = codes "ABEND EXIT TAKEN"
stop_status (kind.Over ending.Ended) = codes "TASK TERMINATION"
stop_status (kind.Over (ending.Abended code)) = codes "TASK ABENDED"

-- line 3: the command by the block that register 1 leads to, or after it by EIBFN
abbrev pub list_of_seen : Seen → ℕ
list_of_seen task = address_in (slice_index task.regs 1)

abbrev pub field_at : Seen → EibField → ℕ
field_at task f = address_after task.eib (eib_field f).offset

unfoldable pub name_of_function : Option ℕ → List ℕ
name_of_function None = codes "?"
name_of_function (Some function) = option_map_or (λ command. (row_of command).name) (command_with function) (codes "?")

unfoldable pub displayed_command : Storage → Seen → StopPoint → List ℕ
displayed_command storage task kind.Before =
    name_of_function (option_and_then (λ w. halfword_at storage (address_in w)) (word_at storage (list_of_seen task)))
displayed_command storage task (kind.After condition) = name_of_function (halfword_at storage (field_at task eib.Fn))
displayed_command storage task other = []

-- lines 4 to 14: an argument, with 16 bytes
abbrev pub argument : Storage → ℕ → ℕ → List (List ℕ)
argument storage k address =
    codes "ARG " ∷ digits 10 2 k ∷ codes " " ∷ digits 16 6 address ∷ codes "  "
    ∷ map (hex_group (bytes_at storage address 16)) quarters ++ codes "  "
    ∷ map (character_group (bytes_at storage address 16)) quarters

-- The arguments with these numbers, up to a word that isn't in storage, and none after one with its high bit set.
unfoldable pub arguments : Storage → ℕ → List ℕ → List (ℕ × List (List ℕ))
arguments storage list [] = []
arguments storage list (k ∷ ks) =
    option_map_or
    (λ w. (k + 4, argument storage k (address_in w)) ∷ (if nat_le (2 ^ 31) w then [] else arguments storage list ks))
    (word_at storage (address_after list (4 * k)))
    []

abbrev pub arguments_due : Storage → Seen → StopPoint → List (ℕ × List (List ℕ))
arguments_due storage task kind.Before =
    arguments storage (list_of_seen task) (0 ∷ 1 ∷ 2 ∷ 3 ∷ 4 ∷ 5 ∷ 6 ∷ 7 ∷ 8 ∷ 9 ∷ 10 ∷ [])
arguments_due storage task other = []

-- lines 15 to 18: four registers from one on
abbrev pub registers : List ℕ → ℕ → ℕ × List (List ℕ)
registers regs k = (
  15 + k / 4,
  codes "R" ∷ digits 10 2 k ∷ codes " " ∷ digits 16 8 (slice_index regs k) ∷ codes " "
      ∷ digits 16 8 (slice_index regs (k + 1))
      ∷ codes " " ∷ digits 16 8 (slice_index regs (k + 2)) ∷ codes " " ∷ digits 16 8 (slice_index regs (k + 3)) ∷ [],
)

-- line 19
abbrev pub state_line : Seen → List (List ℕ)
state_line task = codes "CC " ∷ digits 10 1 task.cc ∷ codes "  NEXT " ∷ digits 16 6 task.next ∷ []

-- line 20
abbrev pub eib_bytes : Storage → Seen → EibField → ℕ → List (Option ℕ)
eib_bytes storage task field n = bytes_at storage (field_at task field) n

abbrev pub eib_line : Storage → Seen → List (List ℕ)
eib_line storage task =
    codes "EIBFN " ∷ map (hex_at (eib_bytes storage task eib.Fn 2)) (0 ∷ 1 ∷ [])
    ++ codes "  EIBRESP " ∷ hex_group (eib_bytes storage task eib.Resp 4) 0
    ∷ codes "  EIBAID " ∷ hex_at (eib_bytes storage task eib.Aid 1) 0
    ∷ codes "  EIBCALEN " ∷ map (hex_at (eib_bytes storage task eib.Calen 2)) (0 ∷ 1 ∷ [])

-- line 21
abbrev pub outcome : StopPoint → List (List ℕ)
outcome (kind.After condition) = codes "RESPONSE " ∷ (entry_of condition).name ∷ []
outcome (kind.Exit code) = codes "ABEND " ∷ shown_text code ∷ []
outcome (kind.Over (ending.Abended code)) = codes "ABEND " ∷ shown_text code ∷ []
outcome other = []

-- line 24
abbrev pub keys : List ℕ
keys = codes "ENTER GO ON  PF3 END  PF4 SUPPRESS  PF5 STORAGE  PF6 USER  PF9 STOP  PF10 BACK"

-- lines 3 to 20, where there is a task
abbrev pub task_lines : Storage → StopPoint → Option Seen → List (ℕ × List (List ℕ))
task_lines storage stop None = []
task_lines storage stop (Some task) =
    (3, codes "COMMAND " ∷ displayed_command storage task stop ∷ [])
    ∷ arguments_due storage task stop ++ map (registers task.regs) quarters ++ (19, state_line task)
    ∷ (20, eib_line storage task) ∷ []

unfoldable pub main_page : Storage → List ℕ → StopPoint → Option Seen → List (List ℕ)
main_page storage name stop task =
    with_page_lines
    blank_page
    ((1, task_heading name task) ∷ (2, codes "STATUS " ∷ stop_status stop ∷ [])
    ∷ task_lines storage stop task ++ (21, outcome stop) ∷ (24, keys ∷ []) ∷ [])

-- ---- the other pages
-- one of 22 rows of 16 bytes, where the working storage goes so far
abbrev pub storage_row : Storage → Seen → ℕ → List ℕ
storage_row storage task row =
    let at = address_after task.stg (16 * row) in
    row_text at (bytes_at storage at (min (task.stg_len - 16 * row) 16))

unfoldable pub with_row : Storage → Seen → List (List ℕ) → ℕ → List (List ℕ)
with_row storage task page row =
    if nat_lt (16 * row) task.stg_len then with_page_line page (row + 2) (storage_row storage task row ∷ []) else page

abbrev pub page_rows : List ℕ
page_rows = 0 ∷ 1 ∷ 2 ∷ 3 ∷ 4 ∷ 5 ∷ 6 ∷ 7 ∷ 8 ∷ 9 ∷ 10 ∷ 11 ∷ 12 ∷ 13 ∷ 14 ∷ 15 ∷ 16 ∷ 17 ∷ 18 ∷ 19 ∷ 20 ∷ 21 ∷ []

abbrev pub storage_heading : Seen → List (List ℕ)
storage_heading task =
    codes "WORKING STORAGE " ∷ digits 16 6 task.stg ∷ codes " LENGTH " ∷ digits 16 6 task.stg_len ∷ []

unfoldable pub storage_page : Storage → Option Seen → List (List ℕ)
storage_page storage None = blank_page
storage_page storage (Some task) =
    fold (with_row storage task) (with_page_line blank_page 1 (storage_heading task)) page_rows

-- the display of a terminal at a stop of some kind; the user page is the terminal's screen
unfoldable pub display_of : RegionState → List ℕ → StopPoint → Display
display_of region name stop =
    record {
      kind = stop;
      main = main_page region.shared.storage name stop (seen_at region name stop);
      storage = storage_page region.shared.storage (seen_at region name stop);
      user = option_map_or (λ terminal. map shown_text terminal.entry.screen) (terminal_of region name) blank_page;
    }
