use Rattle.cx_region.proofs.OverLemmas.{room_by_value}
use Rattle.cx_region.proofs.parts.put_one.Goals as goal

pub put_over-requires : goal.put_over-requires
put_over-requires g c = room_by_value c.args.terminals.now.entries c.args.i c.index_mut.result.now (g.T.KeptTerminal.kept c.args.kept.now).1 c.requires.within c.requires.room c.index_mut.ensures.value
