-- What is written of a level, where there is one; which handles of a level are written, and their lines.
use Rattle.std.specs.Prelude.{ℕ, List, [], ◌∷◌, ◌++◌, codes, Option}
use Rattle.std.specs.List.{flat_map}
use Rattle.std.specs.Option.{option_map_or}
use Rattle.cx_base.specs.Conditions.{entry_of}
use Rattle.cx_base.specs.Digits.{digits}
use Rattle.cx_base.specs.declared.conditions.Condition.{Condition}
use Rattle.cx_load.specs.declared.program.Loaded.{Loaded}
use Rattle.cx_program.specs.Entries.{entry_for}
use Rattle.cx_program.specs.declared.entries.Entries.{Entries}
use Rattle.cx_program.specs.declared.level.Level.{Level}
use Rattle.cx_region_state.specs.State.{SharedState}
use Rattle.cx_look_lines.specs.Words.{Lines}
use Rattle.cx_look_symbols.specs.Lines.{SourcePlaces}
use Rattle.cx_look_symbols.specs.Places.{place_at_address, place_word}
use Rattle.cx_look_symbols.specs.Sources.{Sources}
use Rattle.cx_look_fields.specs.Levels.{handle_line, level_text, level_words}
use Rattle.cx_look_fields.specs.declared.levels.Handles.{Handles}
use Rattle.cx_look_fields.specs.declared.levels.Handles.TheVariants as handles

abbrev pub level_at : Sources → SharedState → ℕ → Option Level → Lines
level_at sources shared k level = option_map_or (level_text sources shared k) level []

abbrev pub command_lines : ℕ → Option (List ℕ) → Lines
command_lines k command =
    option_map_or (λ it. level_words (digits 10 2 k) (codes "COMMAND" ∷ codes "LINE" ∷ it ∷ [])) command []

-- the number of the level that has handles
abbrev pub handles_number : Handles → List ℕ
handles_number (handles.InForce k) = digits 10 2 k
handles_number (handles.Pushed k n) = digits 10 2 k ++ codes " PUSHED " ++ digits 10 2 n

abbrev pub label_line : SourcePlaces → List (List ℕ × Loaded) → List ℕ → Condition → ℕ → Lines
label_line sources programs number condition label =
    level_words number
    (codes "HANDLE" ∷ (entry_of condition).name ∷ place_word sources (place_at_address programs label) ∷ [])

abbrev pub handle_lines : SourcePlaces → List (List ℕ × Loaded) → List ℕ → Entries → List Condition → Lines
handle_lines sources programs number entries conditions =
    flat_map (λ condition. handle_line sources programs number condition (entry_for entries condition)) conditions
