use Rattle.std.proofs.Common.{◌≡◌, ◌<◌, arith, length, refl, slice_get, Some}
use Rattle.std.proofs.lemmas.Option.{slice_get_read}
use Rattle.cx_region_snapshot.proofs.ChangeLemmas.{all_put, one_more}
use Rattle.cx_region_snapshot.proofs.snapshot.changed_terminals.Goals as goal

pub loop-i-preserved : goal.loop-i-preserved
loop-i-preserved c =
    let there = c.args.there.now.entries in
    let kept = c.args.kept.now in
    let one = c.index-kept-i.result in
    let so = c.loop-i.invariant in
    let is : slice_get kept c.loop-i.i ≡ Some one = slice_get_read kept (length kept) c.loop-i.i one refl (omega arith) c.index-kept-i.is in
    let less : c.loop-i.i < length there = omega (arith, so.0) in
    let put = one_more there kept c.loop-i.i c.loop-i.changes.items c.in_ok-made.made (c.name.result, c.in-Some.terminal.now) one c.in-Some.ensures is less c.name.ensures c.in_ok-made.ensures so.1 in
    (so.0, rw c.in_ok-push_changed.ensures put)

pub returns : goal.returns
returns c =
    let so = c.loop-i.invariant in
    all_put c.args.there.now.entries c.args.kept.now c.loop-i.i c.loop-i.changes.items (omega arith) so.0 so.1
