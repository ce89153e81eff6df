use Rattle.std.proofs.Common.{subst, sym}
use Rattle.cx_orders.specs.Moves.{begun}
use Rattle.cx_look_orders.specs.Outcomes.{HasStates}
use Rattle.cx_look_orders.proofs.PlaceLemmas.{counted, whole_reaches}
use Rattle.cx_look_orders.proofs.report.whole_of.Goals as goal

pub outcomes_of-requires : goal.outcomes_of-requires
outcomes_of-requires g c = record {
  finds = c.requires.finds;
  reaches = whole_reaches c.args.searched.now.orders.now.keys (begun c.args.searched.now.region.now) c.args.searched.now.found.now.states.entries
      c.requires.whole.all;
}

pub loop_of-requires : goal.loop_of-requires
loop_of-requires g c = record { finds = c.requires.finds; whole = c.requires.whole }

pub is_stuck-requires : goal.is_stuck-requires
is_stuck-requires g c = record { finds = c.requires.finds; whole = c.requires.whole }

pub returns : goal.returns
returns g c = record {
  many = c.len.ensures.len;
  count = subst (HasStates c.args.searched.now.orders.now.keys (begun c.args.searched.now.region.now)) (sym c.len.ensures.len)
      (counted c.args.searched.now.orders.now.keys (begun c.args.searched.now.region.now) c.args.searched.now.found.now.states.entries
      c.one_list_is_sooner.ensures c.requires.finds c.requires.whole.all);
  outcomes = c.in_ok-outcomes.ensures;
  looping = c.in_ok-looping.ensures;
  stuck = c.in_ok-is_stuck.ensures;
}
