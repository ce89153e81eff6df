use Rattle.std.proofs.Common.{refl, rules}
use Rattle.cx_base.proofs.TableLemmas.{place_same}
use Rattle.cx_base.proofs.replica_tables.are_same_tables.Goals as goal

pub loop-i-preserved : goal.loop-i-preserved
loop-i-preserved g c =
    place_same c.args.ones.now.entries c.args.others.now.entries c.loop-i.i (search rules) (search rules) (c.if-not-is_same_entry.ensures.0 refl) c.loop-i.invariant
