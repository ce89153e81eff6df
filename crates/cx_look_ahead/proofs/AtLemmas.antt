-- The machine in front of the first instruction of a line.
use Rattle.std.proofs.Common.{ap, sym, subst, refl, ◌∙◌, ◌<◌, length}
use Rattle.std.specs.Prelude.{◌≡◌, ℕ, Option, Some, None, MatchOption, IsSomeAnd, List, codes}
use Rattle.std.specs.Option.{option_map_or}
use Rattle.cx_exec.specs.Advance.{Passes}
use Rattle.cx_exec.specs.Machine.{Machine}
use Rattle.cx_exec.specs.Step.{Steps}
use Rattle.cx_exec_laws.specs.Laws.Decide.{StepsDecide}
use Rattle.cx_load.specs.declared.program.Loaded.{Loaded}
use Rattle.cx_region_state.specs.declared.replies.TurnReply.{TurnReply}
use Rattle.cx_region_task.specs.Turn.{most_steps}
use Rattle.cx_region.specs.State.{RegionState}
use Rattle.cx_look_symbols.specs.Lines.{SourcePlaces}
use Rattle.cx_look_symbols.specs.declared.statements.StatementPlace.{StatementPlace}
use Rattle.cx_look_ahead.specs.Arrivals.{statements_on}
use Rattle.cx_look_ahead.specs.At.{ArrivesAt, FirstOf, IsAfter, at_line, first_among, there_lines}
use Rattle.cx_look_turn.specs.NextTurn.{IsAhead, machine_ahead}
use Rattle.cx_look_turn.specs.Laws.{TracesDecide, AreTraced, TurnsRunThem}
use Rattle.cx_look_ahead.specs.Laws.Ats.{AtDecides, ReachesThere, TurnsReachIt}
use Rattle.cx_look_turn.specs.Traces.{ComesPast, IsTrace}
use Rattle.cx_look_ahead.specs.declared.arrivals.SourceLine.{SourceLine}
use Rattle.cx_look_turn.specs.declared.traces.Trace.{Trace}
use Rattle.cx_look_turn.specs.declared.traces.Visit.{Visit}
use Rattle.cx_look_turn.specs.Facts.Visits.{comes_past, passes_decide, traced_all}

-- ---- there is one such machine, and one text
after_decides : StepsDecide Steps → (m : Machine) (n : Option ℕ) (one other : Option Machine) → IsAfter m n one → IsAfter m n other → one ≡ other
after_decides decide m None one other p q = p ∙ sym q
after_decides decide m (Some n) None other p q = absurd p
after_decides decide m (Some n) (Some one) None p q = absurd q
after_decides decide m (Some n) (Some one) (Some other) p q = ap (λ (x : Machine). Some x) (passes_decide decide n m one other p q)

AreOf : Option Machine → Option Trace → Type 0
AreOf m trace = MatchOption m (trace ≡ None) (λ m. IsSomeAnd trace (λ it. IsTrace most_steps m most_steps it.count it.last.items))

first_decides : StepsDecide Steps → TracesDecide → (programs : List (List ℕ × Loaded)) (program : List ℕ) (statements : List StatementPlace)
    (m : Option Machine) (trace other : Option Trace) (one two : Option Machine) → AreOf m trace → AreOf m other
    → FirstOf programs program statements trace m one → FirstOf programs program statements other m two → one ≡ two
unfolding AreOf
first_decides decide traces programs program statements None None None one two p q first second = first ∙ sym second
first_decides decide traces programs program statements None (Some it) other one two p q first second = absurd (cc)
first_decides decide traces programs program statements None None (Some it) one two p q first second = absurd (cc)
first_decides decide traces programs program statements (Some m) None other one two p q first second = absurd p
first_decides decide traces programs program statements (Some m) (Some it) None one two p q first second = absurd q
first_decides decide traces programs program statements (Some m) (Some it) (Some other) one two p q first second =
    let same = traces most_steps m most_steps it.count other.count it.last.items other.last.items p q in
    after_decides decide m (first_among programs program statements other.last.items) one two
    (subst (λ (l : List Visit). IsAfter m (first_among programs program statements l) one) same.1 first) second

arrivals_are_one : StepsDecide Steps → TracesDecide → (places : SourcePlaces) (region : RegionState) (name : List ℕ) (line : SourceLine)
    (one other : Option Machine) → ArrivesAt places region name line one → ArrivesAt places region name line other → one ≡ other
unfolding IsAhead AreOf
arrivals_are_one decide traces places region name line one other p q =
    first_decides decide traces region.shared.programs line.program (statements_on places line) (machine_ahead region name) p.trace q.trace one other p.ahead q.ahead
    p.is q.is

pub at_decides : StepsDecide Steps → TracesDecide → AtDecides
at_decides decide traces sources region name line one other p q =
    let same = arrivals_are_one decide traces sources.places region name line p.there q.there p.arrives q.arrives in
    p.is
    ∙ ap (λ (it : Option Machine). option_map_or (there_lines sources region.shared.programs name line) it (at_line name line (codes "NONE"))) same
    ∙ sym q.is

-- ---- the turn that is then done runs these instructions
reaches : (places : SourcePlaces) (region new : RegionState) (name : List ℕ) (line : SourceLine) (there : Option Machine) (reply : TurnReply)
    (m : Option Machine) (trace : Option Trace) → ((it : Trace) → trace ≡ Some it → AreTraced region name most_steps it reply new) → AreOf m trace
    → FirstOf region.shared.programs line.program (statements_on places line) trace m there
    → MatchOption m (there ≡ None) (λ m. ReachesThere places region name line m there reply new)
unfolding AreOf
reaches places region new name line there reply None None traced none first = first
reaches places region new name line there reply None (Some it) traced none first = absurd (cc)
reaches places region new name line there reply (Some m) None traced are first = absurd are
reaches places region new name line there reply (Some m) (Some it) traced are first =
    let run = traced it refl in
    let all = traced_all most_steps m it.count it.last.items run.visits are run.counted run.kept in
    record {
      visits = run.visits;
      run = run.run;
      is = subst (λ (l : List Visit). IsAfter m (first_among region.shared.programs line.program (statements_on places line) l) there) all first;
    }

pub turns_reach_it : TurnsRunThem → TurnsReachIt
unfolding IsAhead AreOf
turns_reach_it run_them places region new name line there reply arrives turns =
    reaches places region new name line there reply (machine_ahead region name) arrives.trace
    (λ it e. run_them region new name most_steps it reply (subst (λ (t : Option Trace). IsAhead region name most_steps t) e arrives.ahead) turns)
    arrives.ahead arrives.is

-- ---- what a turn arrives with
ahead_trace : (region : RegionState) (name : List ℕ) (it : Trace) (m : Machine) → IsAhead region name most_steps (Some it)
    → Some m ≡ machine_ahead region name → IsTrace most_steps m most_steps it.count it.last.items
unfolding IsAhead
ahead_trace region name it m ahead e = rw (sym e) at ahead

pub past_of : (region : RegionState) (name : List ℕ) (it : Trace) (m : Machine) (n : ℕ) → IsAhead region name most_steps (Some it)
    → Some m ≡ machine_ahead region name → n < length it.last.items → ComesPast m n
past_of region name it m n ahead e within = comes_past most_steps m it.count n it.last.items (ahead_trace region name it m ahead e) within

pub arrives_with_no_run : (places : SourcePlaces) (region : RegionState) (name : List ℕ) (line : SourceLine) → IsAhead region name most_steps None
    → ArrivesAt places region name line None
arrives_with_no_run places region name line ahead = record { trace = None; ahead = ahead; is = refl }

pub arrives_with_no_machine : (places : SourcePlaces) (region : RegionState) (name : List ℕ) (line : SourceLine) (it : Trace)
    → IsAhead region name most_steps (Some it) → None ≡ machine_ahead region name → ArrivesAt places region name line None
arrives_with_no_machine places region name line it ahead e = record { trace = Some it; ahead = ahead; is = rw (sym e) refl }

pub arrives_nowhere : (places : SourcePlaces) (region : RegionState) (name : List ℕ) (line : SourceLine) (it : Trace) (m : Machine)
    → IsAhead region name most_steps (Some it) → Some m ≡ machine_ahead region name
    → None ≡ first_among region.shared.programs line.program (statements_on places line) it.last.items → ArrivesAt places region name line None
arrives_nowhere places region name line it m ahead e none = record { trace = Some it; ahead = ahead; is = rw (sym e, sym none) refl }

pub arrives_there : (places : SourcePlaces) (region : RegionState) (name : List ℕ) (line : SourceLine) (it : Trace) (m there : Machine) (n : ℕ)
    → IsAhead region name most_steps (Some it) → Some m ≡ machine_ahead region name
    → Some n ≡ first_among region.shared.programs line.program (statements_on places line) it.last.items → Passes n m there
    → ArrivesAt places region name line (Some there)
arrives_there places region name line it m there n ahead e first passes =
    record { trace = Some it; ahead = ahead; is = rw (sym e, sym first) passes }
