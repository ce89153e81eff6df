use Rattle.std.proofs.Common.{sym}
use Rattle.cx_look_ahead.proofs.GapLemmas.{next_bounds}
use Rattle.cx_look_ahead.proofs.rows.next_present.Goals as goal

pub returns-in-Some-clause-low : goal.returns-in-Some-clause-low
returns-in-Some-clause-low g c = (next_bounds (g.S.Store.storage c.args.store.now) c.args.from c.in-Some.area c.store_is_sound.ensures (sym c.in-Some.ensures)).0

pub returns-in-Some-clause-high : goal.returns-in-Some-clause-high
returns-in-Some-clause-high g c = (next_bounds (g.S.Store.storage c.args.store.now) c.args.from c.in-Some.area c.store_is_sound.ensures (sym c.in-Some.ensures)).1
