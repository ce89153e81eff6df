use Rattle.std.proofs.Common.{◌∙◌, sym}
use Rattle.std.proofs.lemmas.Option.{none-some}
use Rattle.cx_search.proofs.RestLemmas.{not_near, rests_by}
use Rattle.cx_search.proofs.SearchLemmas.{match_false, match_true}
use Rattle.cx_search.proofs.found.Found.is_resting.Goals as goal

pub returns-in_default : goal.returns-in_default
returns-in_default g c = λ is. none-some _ (c.in_default.ensures.entry ∙ is.there)

pub returns-then-not-is_near : goal.returns-then-not-is_near
returns-then-not-is_near g c =
    not_near (g.T.Space.goes c.args.space.now) c.args.self.now.states.entries c.args.cut c.args.place c.in-Some.state.now c.in-Some.origin.now
    (sym c.in-Some.ensures.entry) (match_false c.is_near.result _ _ c.is_near.ensures c.if-not-is_near.true)

pub returns : goal.returns
returns g c =
    rests_by (g.T.Space.goes c.args.space.now) c.args.self.now.states.entries c.args.cut c.args.place c.in-Some.state.now c.in-Some.origin.now c.in_ok-rests.rests
    (sym c.in-Some.ensures.entry) (match_true c.is_near.result _ _ c.is_near.ensures c.if-not-is_near.false) c.in_ok-rests.ensures
