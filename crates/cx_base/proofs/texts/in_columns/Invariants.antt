use Rattle.std.proofs.Common.{◌≡◌, ◌≤◌, map, take, length}
use Rattle.cx_base.specs.Texts.{join}
use Rattle.cx_base.specs.Parts.Fields.{HoldsText}
use Rattle.cx_base.proofs.texts.in_columns.Given as goal

abbrev pub invariant-loop-piece : goal.invariant-loop-piece
invariant-loop-piece g l =
    (length l.field ≡ g.row.COLUMNS) × (l.at ≤ length l.field) × HoldsText l.field l.at (join (map (λ piece. piece.now) (take l.piece-index l.pieces)))
