-- The line of a task, with the word that says what it is doing; the lines of the fields that its levels have at an
-- address.
use Rattle.std.specs.Prelude.{ℕ, List, [], ◌∷◌, codes, length}
use Rattle.std.specs.List.{flat_map, range_with_len}
use Rattle.cx_load.specs.declared.program.Loaded.{Loaded}
use Rattle.cx_program.specs.Levels.{all_levels}
use Rattle.cx_base.specs.Digits.{digits}
use Rattle.cx_base.specs.Texts.{shown_name}
use Rattle.cx_region_state.specs.State.{SharedState, TaskState}
use Rattle.cx_look_symbols.specs.Lines.{SourcePlaces}
use Rattle.cx_look_symbols.specs.Places.{place_at_address, place_word}
use Rattle.cx_look_lines.specs.Words.{look_line, Lines}
use Rattle.cx_look_symbols.specs.Sources.{Sources}
use Rattle.cx_look_fields.specs.Addresses.{level_lines_at}

abbrev pub task_words : List ℕ → TaskState → List ℕ → Lines
task_words name task due =
    look_line
    (codes "TASK" ∷ shown_name name ∷ codes "TRAN" ∷ shown_name task.tran ∷ codes "NUMBER" ∷ digits 10 7 task.number
    ∷ due ∷ [])

abbrev pub no_task_line : List ℕ → Lines
no_task_line name = look_line (codes "TASK" ∷ shown_name name ∷ codes "NONE" ∷ [])

abbrev pub cc_next_line : SourcePlaces → SharedState → TaskState → Lines
cc_next_line sources shared task =
    look_line
    (codes "CC" ∷ digits 10 1 task.cc ∷ codes "NEXT" ∷ place_word sources (place_at_address shared.programs task.next)
    ∷ [])

abbrev pub task_field_lines : List (List ℕ × Loaded) → Sources → ℕ → List ℕ → TaskState → Lines
task_field_lines programs sources address term task =
    flat_map (level_lines_at programs sources address term task) (range_with_len 1 (length (all_levels task.levels)))
