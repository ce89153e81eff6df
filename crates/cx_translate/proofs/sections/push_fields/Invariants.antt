use Rattle.std.proofs.Common.{◌≡◌, ◌++◌, drop, map}
use Rattle.cx_translate.specs.Sections.{field}
use Rattle.cx_translate.proofs.sections.push_fields.Given as goal

abbrev pub invariant-loop-piece : goal.invariant-loop-piece
invariant-loop-piece l = l.made.items ++ map field (drop l.piece-index l.pieces) ≡ l.fn.made.items ++ map field l.pieces
