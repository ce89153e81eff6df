-- Which line a bad line is, and what was done before it.
use Rattle.std.specs.Prelude.{◌≡◌, ℕ, ◌+◌, ◌-◌, ◌≤◌, ◌⊎◌, true, false, codes, List, [], ◌∷◌, length, take, slice_get, Option, Some, None, Result, Ok, Err, IsSomeAnd}
use Rattle.std.specs.Str.{bytes_eq}
use Rattle.cx_script_actions.specs.Language.{Language}
use Rattle.cx_script_blocks.specs.Blocks.{with_line}
use Rattle.cx_script_blocks.specs.declared.blocks.Block.{Block}
use Rattle.cx_script_io.specs.Lines.{is_too_long, lines_met}
use Rattle.cx_script.specs.Script.{Step, first_place, script_in, step_from}
use Rattle.cx_script.specs.declared.run.Place.{Place}
use Rattle.cx_script.specs.Transcript.{front_of}
use Rattle.cx_script_blocks.specs.declared.faults.RunFault.{RunFault}
use Rattle.cx_script_blocks.specs.declared.faults.RunFault.TheVariants.{BadLine, Read}
use Rattle.cx_script_io.specs.declared.input.Ending.{Ending}
use Rattle.cx_script_io.specs.declared.input.Ending.TheVariants.{AtEnd}

-- the place that a line leaves to the next one
abbrev pub place_after_line : {A H : Type 0} → Result (Step A H) RunFault → Place H
place_after_line (Err fault) = first_place
place_after_line (Ok step) = step.place

-- the place of the line after these lines; the first of them has this number, and is at this place
unfoldable pub place_after_lines : {A H : Type 0} → Language A H → ℕ → Place H → List (List ℕ) → Place H
place_after_lines language number place [] = place
place_after_lines language number place (line ∷ lines) =
    place_after_lines language (number + 1) (place_after_line (step_from language number place line)) lines

-- A bad line at its place: it is too long; or it is no line of a script outside a block, and in one neither the
-- block's end nor a line that the block may have.
abbrev pub IsBadIn : {A H : Type 0} → Language A H → ℕ → Option (Block H) → List ℕ → Type 0
IsBadIn language number None line = (is_too_long line ≡ true) ⊎ (language.line_of number line ≡ None)
IsBadIn language number (Some block) line =
    (is_too_long line ≡ true) ⊎ ((bytes_eq line (codes "/*") ≡ false) × (with_line language block line ≡ None))

-- the line with this number is bad at its place
abbrev pub IsBadThere : {A H : Type 0} → Language A H → List (List ℕ) → ℕ → Type 0
IsBadThere language lines number =
    let place = place_after_lines language 1 first_place (take (number - 1) lines) in
    IsSomeAnd (slice_get lines (number - 1)) (IsBadIn language number place.block)

-- it begins a block that the script's end leaves without its own
abbrev pub IsLeftOpen : {A H : Type 0} → Language A H → Ending → List (List ℕ) → ℕ → Type 0
IsLeftOpen language ending lines number =
    (ending ≡ AtEnd) × IsSomeAnd (place_after_lines language 1 first_place lines).block (λ block. block.line ≡ number)

-- A bad line of the script that these bytes are: it is one of its lines, and bad; those in front of it are not, and
-- exactly what they complete is done.
pub record IsBadLine {A H : Type 0} (language : Language A H) (ending : Ending) (bytes : List ℕ) (number : ℕ)
    : Type 0 where
  pub first : 1 ≤ number
  pub last : number ≤ length (lines_met ending bytes)
  pub bad : let lines = lines_met ending bytes in
      IsBadThere language lines number ⊎ IsLeftOpen language ending lines number
  pub done : front_of language (lines_met ending bytes) (number - 1)
      ≡ record { actions = (script_in language ending bytes).actions; fault = Some Read }

-- a line that is reported as BadLine is a bad one
abbrev pub BadLinesAreBad : {A H : Type 0} → Language A H → Type 0
BadLinesAreBad language = (ending : Ending) (bytes : List ℕ) (number : ℕ)
    → (script_in language ending bytes).fault ≡ Some (BadLine number) → IsBadLine language ending bytes number
