use Rattle.std.proofs.Common.{arith}
use Rattle.cx_look_choices.proofs.RowLemmas.{first_all, first_within}
use Rattle.cx_look_choices.proofs.rows.many_within.Goals as goal

pub returns-then-many-moves : goal.returns-then-many-moves
returns-then-many-moves g c =
    let l = c.loop-place in
    let len = c.len-place-end.ensures.len in
    first_within c.args.found.now.states.entries c.args.moves l.place l.invariant c.moves_at.result c.in-Some.many
    (omega (arith, len, c.loop-place-test.true)) c.moves_at.ensures c.in-Some.is c.if-many-moves.true

pub returns : goal.returns
returns g c =
    let l = c.loop-place in
    let len = c.len-place-end.ensures.len in
    first_all c.args.found.now.states.entries c.args.moves l.place l.invariant c.len.result (omega (arith, len, c.loop-place-test.false)) c.len.ensures.len
