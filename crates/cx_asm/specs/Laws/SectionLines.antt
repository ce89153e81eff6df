-- What is in a section, from one offset to a later one (GC33-4010, "Location Counter Reference"; own).
use Rattle.std.specs.Prelude.{ℕ, ◌+◌, ◌≤◌, List, [], ◌∷◌}
use Rattle.cx_asm_image.specs.Resolved.{AreApart}
use Rattle.cx_asm.specs.Resolving.{Standing}

-- fullwords that ascend and share no byte, none of them before an offset or past a second one
abbrev pub WordsApart : ℕ → List ℕ → ℕ → Type 0
WordsApart from [] end = from ≤ end
WordsApart from (word ∷ words) end = (from ≤ word) × WordsApart (word + 4) words end

-- Resolved lines, and relocated words, each from one offset to another.
pub record IsWithin (from : ℕ) (standing : Standing) (end : ℕ) : Type 0 where
  pub lines : AreApart from standing.lines end
  pub words : WordsApart from standing.relocs end
