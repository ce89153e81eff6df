use Rattle.std.proofs.Common.{◌≡◌, ◌∙◌, ap, arith, length}
use Rattle.cx_choices.proofs.ActingLemmas.{at_rest, still_on}
use Rattle.cx_choices.proofs.acting.first_to_act.Goals as goal

pub loop-number-preserved : goal.loop-number-preserved
loop-number-preserved g c = still_on c.args.region.now c.loop-number.number c.loop-number.invariant c.in_default.ensures.none

pub returns-clause-none : goal.returns-clause-none
returns-clause-none g c =
    let all : c.len-number-end.result ≡ length c.args.region.now.terminals = c.len-number-end.ensures.len ∙ ap length c.terminals.ensures in
    at_rest c.args.region.now c.loop-number.number c.loop-number.invariant (omega (arith, all, c.loop-number-test.false))
