-- A text in the making, line by line.
use Rattle.std.specs.Prelude.{◌≡◌, ℕ, ◌++◌, List, length, ⊤}
use Rattle.std.specs.List.{AllByRecursion}
use Rattle.cx_code.specs.declared.disassembly.Line.{Line}
use Rattle.cx_code.specs.declared.disassembly.LineContent.{LineContent}
use Rattle.cx_code.specs.declared.disassembly.LineContent.TheVariants.{Code}
use Rattle.cx_code.specs.Spelling.{spelling, Spells}
use Rattle.cx_asm_image.specs.Resolved.{AreApart, end_after}
use Rattle.cx_asm_image.specs.Text.{text_from}

-- an instruction is spelled by its spelling, as a well-formed one is
abbrev pub IsSpelled : LineContent → Type 0
IsSpelled (Code i) = Spells i (spelling i)
IsSpelled _ = ⊤

abbrev pub AreSpelled : List Line → Type 0
AreSpelled lines = AllByRecursion (λ line. IsSpelled line.what) lines

-- the text so far goes on with the lines that are left
pub record GoesOn (all rest : List Line) (size : ℕ) (text : List ℕ) : Type 0 where
  pub so_far : text ++ text_from (length text) rest size ≡ text_from 0 all size
  pub apart : AreApart (length text) rest size
  pub spelled : AreSpelled rest → AreSpelled all

-- lines that don't overlap, and the offset after them
pub record IsEndOf (lines : List Line) (end : ℕ) : Type 0 where
  pub at : end ≡ end_after 0 lines
  pub apart : AreApart 0 lines end
