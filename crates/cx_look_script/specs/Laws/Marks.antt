-- What FAULTS marks of a faulty line (own).
use Rattle.std.specs.Prelude.{◌≡◌, ℕ, ◌-◌, List, [], ◌∷◌, ◌++◌, codes, drop, length, map, min, take}
use Rattle.cx_look.specs.declared.look.SourceLines.{SourceLines}
use Rattle.cx_look_lines.specs.Words.{look_line}
use Rattle.cx_look_faults.specs.declared.marks.Mark.{Mark}
use Rattle.cx_look_faults.specs.declared.positions.Spot.{Spot}
use Rattle.cx_look_script.specs.Faults.{mark_line, fault_word, line_and_column, source_text_at}
use Rattle.cx_script_blocks.specs.Shown.{printable_byte}

-- the part of a line that is at a spot
abbrev pub marked_part : Spot → List ℕ → List ℕ
marked_part spot line = take spot.length (drop (spot.column - 1) line)

-- a line with a part marked: that at the spot stands between >> and <<, and without these two it is the line
pub record IsMarked (spot : Spot) (line marked : List ℕ) : Type 0 where
  pub before : List ℕ
  pub after : List ℕ
  pub at : length before ≡ min (spot.column - 1) (length line)
  pub whole : line ≡ before ++ marked_part spot line ++ after
  pub is : marked ≡ before ++ codes ">>" ++ marked_part spot line ++ codes "<<" ++ after

-- what is written of a faulty line ends with the line of its part, so marked
pub record WritesMarked (source : SourceLines) (mark : Mark) : Type 0 where
  pub marked : List ℕ
  pub written : mark_line source mark ≡ look_line (line_and_column source mark.spot ∷ fault_word mark ∷ marked ∷ [])
  pub is : IsMarked mark.spot (map printable_byte (source_text_at source.lines mark.spot.line)) marked

abbrev pub FaultsAreMarked : Type 0
FaultsAreMarked = (source : SourceLines) (mark : Mark) → WritesMarked source mark
