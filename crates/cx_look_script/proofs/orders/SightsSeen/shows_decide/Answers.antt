use Rattle.cx_look.specs.declared.look.Look.{Look}
use Rattle.cx_look_script.specs.Looking.{AreLookLines, at_region}
use Rattle.cx_look_script.proofs.MarkLemmas.{same_lines}
use Rattle.cx_look_script.proofs.OrdersLemmas.{all_decide}
use Rattle.cx_look_script.proofs.orders.SightsSeen.shows_decide.Goals as goal

pub returns : goal.returns
returns g c = λ region.
    let looking = c.args.self.now.looking.now in
    all_decide (λ (k : Look). AreLookLines k (at_region looking region)) region
    (λ l. same_lines c.texts_decide.ensures.tasks c.texts_decide.ensures.resources c.the_next_turn_is_shown.ensures.decides
    c.turns_reach_it.ensures.decides c.turns_reach_it.ensures.after l (at_region looking region))
    c.args.self.now.sights.now
