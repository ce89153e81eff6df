use Rattle.std.proofs.Common.{◌≡◌, ap, ◌∙◌, arith, map, take}
use Rattle.std.proofs.lemmas.List.{length-replicate, take_all}
use Rattle.cx_base.specs.Texts.{in_columns, join}
use Rattle.cx_base.proofs.FieldLemmas.{blank_field}
use Rattle.cx_base.proofs.texts.in_columns.Goals as goal

pub loop-piece-init : goal.loop-piece-init
loop-piece-init g c = (length-replicate g.row.COLUMNS 32, omega arith, blank_field g.row.COLUMNS)

pub returns : goal.returns
returns g c =
    let all : take c.loop-piece.piece-index c.args.pieces.now ≡ c.args.pieces.now = take_all c.loop-piece.piece-index c.args.pieces.now c.loop-piece-test.false in
    c.loop-piece.invariant.2.shows ∙ ap (λ n. in_columns n (join (map (λ piece. piece.now) (take c.loop-piece.piece-index c.args.pieces.now)))) c.loop-piece.invariant.0
    ∙ ap (λ l. in_columns g.row.COLUMNS (join (map (λ piece. piece.now) l))) all
