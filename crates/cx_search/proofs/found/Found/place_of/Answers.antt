use Rattle.std.proofs.Common.{ap, is_some, sym, ◌∙◌}
use Rattle.cx_search.proofs.found.Found.place_of.Goals as goal
use Rattle.cx_search.proofs.PlaceLemmas.{absent_place, none_of, present_place}

pub returns-in-Some-clause-found : goal.returns-in-Some-clause-found
returns-in-Some-clause-found g c =
    present_place c.args.self.now.states g.met.T.Space.same c.args.state.now c.in-Some.place (sym c.get_index_of.ensures.index ∙ c.in-Some.is)

pub returns-in-None-clause-absent : goal.returns-in-None-clause-absent
returns-in-None-clause-absent g c =
    absent_place g.met.T.State.Eq.laws c.args.self.now.states c.get_index_of.ensures.unique c.args.state.now (none_of _ (sym c.get_index_of.ensures.found ∙ ap is_some c.in-None.is))
