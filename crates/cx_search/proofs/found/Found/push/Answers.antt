use Rattle.std.proofs.Common.{◌∙◌}
use Rattle.indexmap.proofs.CallerLemmas.{insert_entry-new}
use Rattle.cx_search.proofs.found.Found.push.Goals as goal
use Rattle.cx_search.proofs.PlaceLemmas.{absent_get}

pub returns-clause-ok : goal.returns-clause-ok
returns-clause-ok g c =
    c.in_ok-insert.ensures.entries ∙ insert_entry-new g.T.State.PartialEq.eq c.args.self.now.states c.args.state c.args.origin (absent_get g.met.T.Space.same c.args.self.now.states c.args.state c.requires)
