use Rattle.std.proofs.Common.{◌≡◌, ◌≤◌, ◌++◌, ℕ, List, take, length}
use Rattle.cx_base.specs.Parts.Fields.{HoldsText}
use Rattle.cx_base.proofs.texts.put_piece.Given as goal

abbrev pub invariant-loop-character : goal.invariant-loop-character
invariant-loop-character l =
    (length l.field ≡ length l.initial.field) × (l.end ≤ length l.field)
    × ((text : List ℕ) → HoldsText l.initial.field l.at text → HoldsText l.field l.end (text ++ take l.character-index l.piece))
