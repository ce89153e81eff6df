use Rattle.std.proofs.Common.{◌≡◌, ◌∙◌, arith, length, map, refl, slice_get, Some}
use Rattle.std.proofs.lemmas.Option.{slice_get_read}
use Rattle.cx_region.proofs.OverLemmas.{given_is, kept_at, kept_within, room_is}
use Rattle.cx_region.proofs.parts.put_kept.Goals as goal

pub put_one-requires-clause-room : goal.put_one-requires-clause-room
put_one-requires-clause-room g c =
    let kept = g.T.KeptTerminal.kept in
    let items = c.args.kept.now in
    let one = c.index-kept-i.result in
    let is : slice_get items c.loop-i.i ≡ Some one = slice_get_read items (length items) c.loop-i.i one refl (omega arith) c.index-kept-i.is in
    rw c.loop-i.invariant (room_is c.args.terminals.now.entries (map kept items) c.loop-i.i (kept one) c.requires (kept_at kept items c.loop-i.i one is) (kept_within kept items c.loop-i.i one is))

pub loop-i-preserved : goal.loop-i-preserved
loop-i-preserved g c =
    let kept = g.T.KeptTerminal.kept in
    let items = c.args.kept.now in
    let one = c.index-kept-i.result in
    let is : slice_get items c.loop-i.i ≡ Some one = slice_get_read items (length items) c.loop-i.i one refl (omega arith) c.index-kept-i.is in
    let set = given_is c.args.terminals.now.entries (map kept items) c.loop-i.i (kept one) c.requires (kept_at kept items c.loop-i.i one is) (kept_within kept items c.loop-i.i one is) in
    c.put_one.ensures ∙ rw c.loop-i.invariant set
