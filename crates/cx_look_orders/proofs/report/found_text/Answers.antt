use Rattle.std.proofs.Common.{◌≡◌, ℕ, ◌++◌, Option, inl, inr, length, arith, subst}
use Rattle.std.specs.Prelude.{MatchOption}
use Rattle.cx_search.specs.Finds.{FindsNearest, IsWhole}
use Rattle.cx_orders.specs.Moves.{Moves, begun}
use Rattle.cx_look_orders.specs.Report.{OrdersText, cut_line, loop_lines, outcomes_lines, stuck_line, whole_line}
use Rattle.cx_look_steps.specs.Facts.Lists.{ok_on}
use Rattle.cx_look_orders.proofs.PlaceLemmas.{cut_at, cut_reaches}
use Rattle.cx_look_orders.proofs.report.found_text.Goals as goal

pub whole_of-requires : goal.whole_of-requires
whole_of-requires g c =
    let keys = c.args.searched.now.orders.now.keys in
    let start = begun c.args.searched.now.region.now in
    let found = c.args.searched.now.found.now in
    record {
      finds = c.requires.finds;
      whole = subst
          (λ (o : Option ℕ). MatchOption o (IsWhole (Moves keys) start found.states.entries found.links.items)
          (λ moves. FindsNearest (Moves keys) start found.states.entries c.args.most moves)) c.in_default.is c.requires.reaches;
    }

pub returns-in_default : goal.returns-in_default
returns-in_default g c =
    let region = c.args.searched.now.region.now in
    let keys = c.args.searched.now.orders.now.keys in
    let edf = c.args.edf.now in
    let whole = c.in_ok-whole.whole in
    ok_on
    (λ report. report ≡ whole_line keys whole.states (length whole.outcomes.items)
    ++ outcomes_lines region keys.lines edf 1 whole.outcomes.items ++ loop_lines region keys.lines edf whole.looping
    ++ stuck_line whole.is_stuck)
    (OrdersText (g.V.Seen.shows c.args.searched.now.seen.now) (g.V.Seen.tells c.args.searched.now.seen.now) keys region edf c.args.most) c.whole_report.result
    (λ report is. inl (record {
      states = whole.states;
      count = c.in_ok-whole.ensures.count;
      few = omega (arith, c.in_ok-whole.ensures.many, c.requires.few);
      outcomes = whole.outcomes.items;
      are = c.in_ok-whole.ensures.outcomes;
      loop = whole.looping;
      may_loop = c.in_ok-whole.ensures.looping;
      is_stuck = whole.is_stuck;
      may_stick = c.in_ok-whole.ensures.stuck;
      is = is;
    }))
    c.whole_report.ensures

pub outcomes_of-requires : goal.outcomes_of-requires
outcomes_of-requires g c =
    let keys = c.args.searched.now.orders.now.keys in
    let start = begun c.args.searched.now.region.now in
    let found = c.args.searched.now.found.now in
    record {
      finds = c.requires.finds;
      reaches = cut_reaches keys start found.states.entries c.one_list_is_sooner.ensures c.requires.finds c.args.most c.in-Some.moves
          (subst
          (λ (o : Option ℕ). MatchOption o (IsWhole (Moves keys) start found.states.entries found.links.items)
          (λ moves. FindsNearest (Moves keys) start found.states.entries c.args.most moves)) c.in-Some.is c.requires.reaches);
    }

pub returns : goal.returns
returns g c =
    let region = c.args.searched.now.region.now in
    let keys = c.args.searched.now.orders.now.keys in
    let edf = c.args.edf.now in
    let found = c.args.searched.now.found.now in
    let most = c.args.most in
    let moves = c.in-Some.moves in
    let nearest = subst
    (λ (o : Option ℕ). MatchOption o (IsWhole (Moves keys) (begun region) found.states.entries found.links.items)
    (λ moves. FindsNearest (Moves keys) (begun region) found.states.entries most moves)) c.in-Some.is c.requires.reaches in
    ok_on (λ report. report ≡ cut_line keys most moves ++ outcomes_lines region keys.lines edf 1 c.as_slice.result.now)
    (OrdersText (g.V.Seen.shows c.args.searched.now.seen.now) (g.V.Seen.tells c.args.searched.now.seen.now) keys region edf most) c.cut_report.result
    (λ report is. inr (record {
      moves = moves;
      cut = cut_at keys (begun region) found.states.entries c.one_list_is_sooner.ensures c.requires.finds most moves nearest
          c.requires.few;
      outcomes = c.in_ok-outcomes.outcomes.items;
      are = c.in_ok-outcomes.ensures;
      is = subst (λ os. report ≡ cut_line keys most moves ++ outcomes_lines region keys.lines edf 1 os) c.as_slice.ensures.value is;
    }))
    c.cut_report.ensures
