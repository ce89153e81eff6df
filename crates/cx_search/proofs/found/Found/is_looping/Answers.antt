use Rattle.cx_search.proofs.MarkLemmas.{loops_by}
use Rattle.cx_search.proofs.found.Found.is_looping.Goals as goal

pub returns : goal.returns
returns g c = λ space start state f whole at.
    loops_by (g.T.Space.goes space) c.args.self.now.states.entries c.args.self.now.links.items whole.done whole.linked whole.enough c.in_ok-marks.marks.items
    c.args.place state c.has_mark.result c.has_mark.ensures (c.in_ok-marks.ensures.right space whole.done whole.linked) c.in_ok-marks.ensures.stable f.once at
