-- Steps as the lines of a script (this product's own).
use Rattle.std.specs.Prelude.{ℕ, ◌+◌, ◌==◌, ◌&&◌, Bool, false, nat_le, nat_lt, if◌then◌else◌, List, [], ◌∷◌, ◌++◌, Option, Some, None, codes, is_none, length, slice_get, unwrap_or}
use Rattle.std.specs.Fmt.{decimal}
use Rattle.std.specs.List.{flat_map}
use Rattle.std.specs.Option.{option_and_then, option_map_or, option_to_list}
use Rattle.cx_base.specs.Texts.{shown_name}
use Rattle.cx_look_lines.specs.Words.{Lines, look_line}
use Rattle.cx_region.specs.State.{RegionState}
use Rattle.cx_orders.specs.Moves.{keys_of}
use Rattle.cx_orders.specs.declared.states.KeyLine.{KeyLine}
use Rattle.cx_look_steps.specs.Incidents.{terminal_name_at}
use Rattle.cx_look_steps.specs.declared.script.Row.{Row}
use Rattle.cx_look_steps.specs.declared.steps.Step.{Step}

-- ---- what is told of turns, as comments
abbrev pub with_text : List ℕ → List ℕ → List ℕ
with_text line text = line ++ codes ", " ++ text

-- a line, and the texts that are left: the next goes on with the line, where that has at most 100 characters then, or
-- else begins another
unfoldable pub comments_on : List ℕ → List (List ℕ) → Lines
comments_on line [] = line ∷ []
comments_on line (text ∷ texts) =
    if nat_le (length (with_text line text)) 100 then comments_on (with_text line text) texts
    else line ∷ comments_on (codes "* " ++ text) texts

abbrev pub comment_lines : List (List ℕ) → Lines
comment_lines [] = []
comment_lines (text ∷ texts) = comments_on (codes "* " ++ text) texts

-- ---- turns in a row
-- the step is one more turn of the terminal whose turns stand in a row before it, of which a line can ask for 4,096
abbrev pub row_goes_on : Option Row → Step → Bool
row_goes_on None step = false
row_goes_on (Some row) step = is_none step.key && (row.number == step.number) && nat_lt row.many 4096

abbrev pub no_turns : ℕ → Row
no_turns number = record { number = number; many = 0; told = [] }

-- the row that the step goes on with, or one that it begins
abbrev pub row_before : Option Row → Step → Row
row_before row step = if row_goes_on row step then unwrap_or row (no_turns step.number) else no_turns step.number

abbrev pub with_turn : Row → Step → Row
with_turn row step =
    record { number = row.number; many = row.many + 1; told = row.told ++ option_to_list step.told }

-- the row with the step, where that is a turn
abbrev pub row_after : Option Row → Step → Option Row
row_after row step = if is_none step.key then Some (with_turn (row_before row step) step) else None

abbrev pub row_lines : RegionState → Option Row → Lines
row_lines region None = []
row_lines region (Some row) =
    look_line (codes "RUN" ∷ terminal_name_at region row.number ∷ decimal row.many ∷ []) ++ comment_lines row.told

-- ---- keys
-- the terminal's key before which so many come
abbrev pub key_at : RegionState → List KeyLine → ℕ → ℕ → Option KeyLine
key_at region keys number came =
    option_and_then (λ entry. slice_get (keys_of keys entry.0) came) (slice_get region.terminals number)

-- as the line that asks for it is written
abbrev pub key_line : RegionState → List KeyLine → Step → Lines
key_line region keys step =
    option_map_or (λ (key : KeyLine). key.line ∷ []) (option_and_then (key_at region keys step.number) step.key) []

-- ---- the script
-- the lines that are written before a step's row goes on: none where it is one more of the row
abbrev pub step_lines : RegionState → List KeyLine → Option Row → Step → Lines
step_lines region keys row step = if row_goes_on row step then [] else row_lines region row ++ key_line region keys step

unfoldable pub steps_lines : RegionState → List KeyLine → Option Row → List Step → Lines
steps_lines region keys row [] = row_lines region row
steps_lines region keys row (step ∷ steps) =
    step_lines region keys row step ++ steps_lines region keys (row_after row step) steps

-- EDF of a terminal is ended
abbrev pub off_line : List ℕ → Lines
off_line name = look_line (codes "EDF" ∷ shown_name name ∷ codes "OFF" ∷ [])

unfoldable pub script_lines : RegionState → List KeyLine → List (List ℕ) → List Step → Lines
script_lines region keys edf steps = flat_map off_line edf ++ steps_lines region keys None steps
