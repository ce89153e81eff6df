use Rattle.std.proofs.Common.{refl, sym, ap, subst, ◌∙◌}
use Rattle.indexmap.specs.IndexMap.{insert_entry}
use Rattle.cx_search.specs.Found.{IsAt, Searched}
use Rattle.cx_search.proofs.found.Found.begin.Goals as goal
use Rattle.cx_search.proofs.SearchLemmas.{begun}

pub returns-clause-searched : goal.returns-clause-searched
returns-clause-searched g c space =
    subst (λ es. Searched (g.T.Space.goes space) es 0 0)
    (sym (c.in_ok-insert.ensures.entries ∙ ap (λ es. insert_entry g.T.State.PartialEq.eq es c.args.start (record { from = 0; number = 0; moves = 0 })) c.new-states.ensures.empty))
    (begun (g.T.Space.goes space) c.args.start (record { from = 0; number = 0; moves = 0 }) refl)

pub returns-clause-begun : goal.returns-clause-begun
returns-clause-begun g c =
    subst (λ es. IsAt es 0 c.args.start)
    (sym (c.in_ok-insert.ensures.entries ∙ ap (λ es. insert_entry g.T.State.PartialEq.eq es c.args.start (record { from = 0; number = 0; moves = 0 })) c.new-states.ensures.empty))
    (record { origin = record { from = 0; number = 0; moves = 0 }; there = refl })
