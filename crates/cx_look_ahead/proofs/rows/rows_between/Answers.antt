use Rattle.cx_look_ahead.proofs.RowLemmas.{all_high, all_rows, none_next, one_more}
use Rattle.cx_look_ahead.proofs.rows.rows_between.Goals as goal

pub loop-row-preserved : goal.loop-row-preserved
loop-row-preserved g c =
    let s = g.S.Store.storage c.args.before.now in
    let t = g.S.Store.storage c.args.after.now in
    let rows = c.loop-row.rows.items in
    let row = c.in-Some.row in
    rw c.in_ok-push.ensures.items (
      c.in-Some.ensures.high,
      all_high rows row c.loop-row.invariant.1 c.in-Some.ensures.high,
      one_more s t c.loop-row.from rows row c.loop-row.invariant.2 c.in-Some.ensures.next,
    )

pub returns-clause-rows : goal.returns-clause-rows
returns-clause-rows g c =
    let s = g.S.Store.storage c.args.before.now in
    let t = g.S.Store.storage c.args.after.now in
    let same = none_next s t c.loop-row.from c.next_row.result c.in_default.not-Some c.next_row.ensures.next in
    all_rows s t c.loop-row.from c.loop-row.rows.items c.loop-row.invariant.2 same
