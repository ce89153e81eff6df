-- TASK: what is kept of a level (own).
use Rattle.std.specs.Prelude.{ℕ, ◌+◌, List, [], ◌∷◌, ◌++◌, length, reverse, slice_index, codes}
use Rattle.std.specs.List.{flat_map}
use Rattle.std.specs.Option.{option_map_or}
use Rattle.cx_base.specs.Conditions.{entry_of, handled_conditions}
use Rattle.cx_base.specs.Eistg.{eistg_field}
use Rattle.cx_base.specs.declared.conditions.Condition.{Condition}
use Rattle.cx_base.specs.declared.eistg.EistgField.TheVariants.{Eicap}
use Rattle.cx_storage.specs.Address.{address_in, address_after}
use Rattle.cx_storage.specs.Word.{word_at}
use Rattle.cx_load.specs.declared.program.Loaded.{Loaded}
use Rattle.cx_program.specs.Entries.{entry_for}
use Rattle.cx_program.specs.declared.entries.Handler.{Handler}
use Rattle.cx_program.specs.declared.entries.Handler.TheVariants as entry
use Rattle.cx_program.specs.declared.entries.Handling.{Handling}
use Rattle.cx_program.specs.declared.entries.Exit.{Exit}
use Rattle.cx_program.specs.declared.entries.Exit.TheVariants as exit
use Rattle.cx_program.specs.declared.level.Level.{Level}
use Rattle.cx_region_state.specs.State.{SharedState}
use Rattle.cx_base.specs.Digits.{digits}
use Rattle.cx_base.specs.Texts.{shown_name}
use Rattle.cx_look_lines.specs.Words.{look_line, Lines}
use Rattle.cx_look_symbols.specs.Lines.{SourcePlaces}
use Rattle.cx_look_symbols.specs.Places.{address_word, place_at_address, place_word, spot_before}
use Rattle.cx_look_symbols.specs.Sources.{Sources, statement_at}

-- a line of a level, with its number
abbrev pub level_words : List ℕ → List (List ℕ) → Lines
level_words number words = look_line (codes "LEVEL" ∷ number ∷ words)

-- ---- its program, where it goes on, its DFHEISTG, the word at DFHEICAP, EIBCALEN, how many PUSH HANDLEs keep
-- something
-- the address in the register 14 that it kept
abbrev pub resume_address : Level → ℕ
resume_address level = address_in (slice_index level.regs 14)

unfoldable pub level_line : SharedState → ℕ → Level → Lines
level_line shared k level =
    level_words (digits 10 2 k)
    (codes "PROGRAM" ∷ shown_name level.program ∷ codes "R14"
    ∷ address_word (place_at_address shared.programs (resume_address level))
    ∷ codes "DFHEISTG" ∷ digits 16 6 level.stg ∷ codes "LENGTH" ∷ digits 16 6 level.stg_len ∷ codes "DFHEICAP"
    ∷ option_map_or (digits 16 8) (word_at shared.storage (address_after level.stg (eistg_field Eicap).offset))
    (codes "--")
    ∷ codes "EIBCALEN" ∷ digits 16 4 level.calen ∷ codes "PUSHED" ∷ digits 10 2 (length level.handles.kept) ∷ [])

-- its last command, by the statement of the byte before the place where it goes on: that is the last byte of the
-- command's EXEC
unfoldable pub last_command_line : Sources → List (List ℕ × Loaded) → ℕ → Level → Lines
last_command_line sources programs k level =
    option_map_or (λ it. level_words (digits 10 2 k) (codes "COMMAND" ∷ codes "LINE" ∷ it ∷ []))
    (statement_at sources (spot_before programs (resume_address level))) []

-- ---- handles, with the number of their level: a condition that is ignored, and one with a label
abbrev pub handle_line : SourcePlaces → List (List ℕ × Loaded) → List ℕ → Condition → Handler → Lines
handle_line sources programs number condition entry.NoEntry = []
handle_line sources programs number condition entry.Ignored =
    level_words number (codes "IGNORE" ∷ (entry_of condition).name ∷ [])
handle_line sources programs number condition (entry.Label label) =
    level_words number
    (codes "HANDLE" ∷ (entry_of condition).name ∷ place_word sources (place_at_address programs label) ∷ [])

-- ---- the exit, and whether it is on
abbrev pub exit_words : SourcePlaces → List (List ℕ × Loaded) → List ℕ → ℕ → List ℕ → Lines
exit_words sources programs number label state =
    level_words number (codes "EXIT" ∷ place_word sources (place_at_address programs label) ∷ state ∷ [])

abbrev pub exit_line : SourcePlaces → List (List ℕ × Loaded) → List ℕ → Exit → Lines
exit_line sources programs number exit.NoExit = []
exit_line sources programs number (exit.On label) = exit_words sources programs number label (codes "ON")
exit_line sources programs number (exit.Off label) = exit_words sources programs number label (codes "OFF")

-- ---- what is asked for, and what PUSH HANDLEs from the number n on keep, each with its number
unfoldable pub handling_lines : SourcePlaces → List (List ℕ × Loaded) → List ℕ → Handling → Lines
handling_lines sources programs number handling =
    flat_map (λ it. handle_line sources programs number it (entry_for handling.entries it)) handled_conditions
    ++ exit_line sources programs number handling.exit

unfoldable pub pushed_lines : SourcePlaces → List (List ℕ × Loaded) → ℕ → ℕ → List Handling → Lines
pushed_lines sources programs k n [] = []
pushed_lines sources programs k n (handling ∷ more) =
    handling_lines sources programs (digits 10 2 k ++ codes " PUSHED " ++ digits 10 2 n) handling
    ++ pushed_lines sources programs k (n + 1) more

-- ---- a level: its line, its last command, what it asks for at present, and what its PUSH HANDLEs keep, the first
-- first; and levels from the number k on
unfoldable pub level_text : Sources → SharedState → ℕ → Level → Lines
level_text sources shared k level =
    (level_line shared k level ++ last_command_line sources shared.programs k level)
    ++ (handling_lines sources.places shared.programs (digits 10 2 k) level.handles.active
    ++ pushed_lines sources.places shared.programs k 1 (reverse level.handles.kept))

unfoldable pub levels_text : Sources → SharedState → ℕ → List Level → Lines
levels_text sources shared k [] = []
levels_text sources shared k (level ∷ levels) =
    level_text sources shared k level ++ levels_text sources shared (k + 1) levels
