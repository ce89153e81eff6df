-- The next turn comes to a line where the turn that is done does something of it.
use Rattle.std.proofs.Common.{ap, sym, subst, refl, ◌∙◌}
use Rattle.std.specs.Prelude.{◌≡◌, ℕ, Bool, Option, Some, None, MatchOption, IsSomeAnd, List}
use Rattle.cx_exec.specs.Machine.{Machine}
use Rattle.cx_region_state.specs.declared.replies.TurnReply.{TurnReply}
use Rattle.cx_region_task.specs.Turn.{most_steps}
use Rattle.cx_region.specs.State.{RegionState}
use Rattle.cx_region.specs.Tables.{task_of}
use Rattle.cx_look_symbols.specs.Lines.{SourcePlaces}
use Rattle.cx_look_turn.specs.Laws.{TracesDecide, AreTraced, TurnsRunThem}
use Rattle.cx_look_turn.specs.Traces.{IsTrace}
use Rattle.cx_look_turn.specs.declared.traces.Trace.{Trace}
use Rattle.cx_look_turn.specs.declared.traces.Visit.{Visit}
use Rattle.cx_look_ahead.specs.Arrivals.{are_among, does_some, is_command_among, statements_on}
use Rattle.cx_look_turn.specs.NextTurn.{IsAhead, machine_ahead}
use Rattle.cx_look_turn.specs.Facts.Visits.{traced_all}
use Rattle.cx_look_ahead.specs.Laws.Arrivals.{ArrivalsDecide, RunsSome, TurnsDoSome}
use Rattle.cx_look_ahead.specs.declared.arrivals.SourceLine.{SourceLine}

-- ---- the turn runs them
AreOf : Option Machine → Option Trace → Type 0
AreOf m trace = MatchOption m (trace ≡ None) (λ m. IsSomeAnd trace (λ it. IsTrace most_steps m most_steps it.count it.last.items))

does : (places : SourcePlaces) (region : RegionState) (name : List ℕ) (line : SourceLine) → Option Trace → Bool
does places region name line trace = does_some region.shared.programs line.program (statements_on places line) (task_of region name) trace

runs_some : (places : SourcePlaces) (region new : RegionState) (name : List ℕ) (line : SourceLine) (comes : Bool) (reply : TurnReply) (m : Option Machine)
    (trace : Option Trace) → ((it : Trace) → trace ≡ Some it → AreTraced region name most_steps it reply new) → AreOf m trace
    → comes ≡ does places region name line trace
    → MatchOption m (comes ≡ is_command_among region.shared.programs line.program (statements_on places line) (task_of region name))
    (λ m. RunsSome places region name line comes reply new)
unfolding AreOf does
runs_some places region new name line comes reply None trace traced none is =
    is ∙ ap (λ (t : Option Trace). does_some region.shared.programs line.program (statements_on places line) (task_of region name) t) none
runs_some places region new name line comes reply (Some m) None traced are is = absurd are
runs_some places region new name line comes reply (Some m) (Some it) traced are is =
    let run = traced it refl in
    let all = traced_all most_steps m it.count it.last.items run.visits are run.counted run.kept in
    record {
      visits = run.visits;
      run = run.run;
      is = is ∙ ap (λ (l : List Visit). are_among region.shared.programs line.program (statements_on places line) l) all;
    }

pub turns_do_some : TurnsRunThem → TurnsDoSome
unfolding IsAhead AreOf does
turns_do_some run_them places region new name line comes reply comes_to turns =
    runs_some places region new name line comes reply (machine_ahead region name) comes_to.trace
    (λ it e. run_them region new name most_steps it reply (subst (λ (t : Option Trace). IsAhead region name most_steps t) e comes_to.ahead) turns)
    comes_to.ahead comes_to.is

-- ---- there is one answer
same_does : TracesDecide → (places : SourcePlaces) (region : RegionState) (name : List ℕ) (line : SourceLine) (m : Option Machine) (one other : Option Trace)
    → AreOf m one → AreOf m other → does places region name line one ≡ does places region name line other
unfolding AreOf does
same_does decide places region name line None one other p q =
    ap (λ (t : Option Trace). does_some region.shared.programs line.program (statements_on places line) (task_of region name) t) (p ∙ sym q)
same_does decide places region name line (Some m) None other p q = absurd p
same_does decide places region name line (Some m) (Some one) None p q = absurd q
same_does decide places region name line (Some m) (Some one) (Some other) p q =
    let same = decide most_steps m most_steps one.count other.count one.last.items other.last.items p q in
    ap (λ (l : List Visit). are_among region.shared.programs line.program (statements_on places line) l) same.1

pub arrivals_decide : TracesDecide → ArrivalsDecide
unfolding IsAhead AreOf does
arrivals_decide decide places region name line one other p q =
    p.is ∙ same_does decide places region name line (machine_ahead region name) p.trace q.trace p.ahead q.ahead ∙ sym q.is
