-- Where RUN ends in front of a turn.
use Rattle.std.proofs.Common.{◌≡◌, if◌then◌else◌, Bool, true, false, MatchBool, ℕ, Option, Some, None, List, refl, sym, subst, ap, ◌∙◌}
use Rattle.std.specs.Option.{option_map}
use Rattle.cx_region.specs.Events.{Applies}
use Rattle.cx_region.specs.State.{RegionState}
use Rattle.cx_region.specs.declared.replies.Event.TheVariants as event
use Rattle.cx_region.specs.declared.replies.Reply.{Reply}
use Rattle.cx_region.specs.declared.replies.Reply.TheVariants as reply
use Rattle.cx_region_laws.specs.Laws.Regions.{TurnsDecide}
use Rattle.cx_edf.specs.State.{EdfState, holds}
use Rattle.cx_edf.specs.Steps.{DisplayMaker, DoorAnswers, EdfApplies, Keeps, Passes, door_of}
use Rattle.cx_edf.specs.declared.answers.Answer.{Answer}
use Rattle.cx_edf.specs.declared.answers.Answer.TheVariants as answer
use Rattle.cx_look_symbols.specs.Sources.{Sources}
use Rattle.cx_look_ahead.specs.Arrivals.{ComesTo, has_statement}
use Rattle.cx_look_ahead.specs.Laws.Arrivals.{ArrivalsDecide, TurnsDoSome}
use Rattle.cx_look_ahead.specs.declared.arrivals.SourceLine.{SourceLine}
use Rattle.cx_look_abend.specs.Abends.{abend_code_in}
use Rattle.cx_look_script.specs.Laws.Turns.{EndsBeforeLine, RegionDoes, RunsEndBeforeAbends, RunsEndBeforeLines, StopsDecide, abend_in}
use Rattle.cx_look_script.specs.Runs.{AppliesAtLooks, IsAbendAhead, IsLineAhead, IsNextAbend, StopsBeforeLine, StopsWith, no_line, stopped_before, stopped_before_line, turn_of}
use Rattle.cx_look_script.specs.State.{LookState}
use Rattle.cx_look_script.specs.declared.action.Stop.TheVariants as stop

-- ---- the turn is answered so
of_reply : TurnsDecide → (region new : RegionState) (name : List ℕ) (code : Option (List ℕ)) (given : Reply) → IsNextAbend region name code → Applies region (event.Turn name) given new
    → code ≡ abend_in (answer.Region given)
unfolding Applies
of_reply decide region new name code (reply.Turn given) next turns =
    next.is ∙ ap abend_code_in (decide region name next.reply given next.after new next.turns turns).0
of_reply decide region new name code (reply.Program given) next turns = absurd turns
of_reply decide region new name code (reply.Transaction given) next turns = absurd turns
of_reply decide region new name code (reply.Terminal given) next turns = absurd turns
of_reply decide region new name code reply.Clock next turns = absurd turns
of_reply decide region new name code (reply.Key _) next turns = absurd turns
of_reply decide region new name code (reply.Alter given) next turns = absurd turns

at_door : (make : DisplayMaker) → TurnsDecide → (old new : EdfState) (name : List ℕ) (code : Option (List ℕ)) (given : Answer) (held : Bool) → MatchBool held (code ≡ None) (IsNextAbend old.region name code)
    → DoorAnswers make old (if held then Keeps answer.Held old.sessions else Passes (event.Turn name) None) given new → code ≡ abend_in given
at_door make decide old new name code given true ahead row = ahead ∙ sym (ap abend_in row.0)
at_door make decide old new name code given false ahead row =
    of_reply decide old.region new.region name code row.reply ahead row.applies ∙ sym (ap abend_in row.answers)

pub runs_end_before_abends : TurnsDecide → RunsEndBeforeAbends
unfolding StopsWith IsAbendAhead EdfApplies door_of
runs_end_before_abends decide make old new name line given stops applied =
    stops.is ∙ ap (option_map (stopped_before name)) (at_door make decide old.edf new.edf name stops.code given (holds old.edf name) stops.ahead applied.noted.applies)

-- ---- the turn does so
region_does : TurnsDoSome → (old : LookState) (name : List ℕ) (to : SourceLine) (comes : Bool) (given : Reply) (new : RegionState)
    → ComesTo old.sources.places old.edf.region name to comes → Applies old.edf.region (event.Turn name) given new
    → RegionDoes old name to comes (answer.Region given) new
unfolding Applies
region_does law old name to comes (reply.Turn given) new next turns =
    record {
      turned = given;
      answers = refl;
      turns = turns;
      done = law old.sources.places old.edf.region new name to comes given next turns;
    }
region_does law old name to comes (reply.Program given) new next turns = absurd turns
region_does law old name to comes (reply.Transaction given) new next turns = absurd turns
region_does law old name to comes (reply.Terminal given) new next turns = absurd turns
region_does law old name to comes reply.Clock new next turns = absurd turns
region_does law old name to comes (reply.Key _) new next turns = absurd turns
region_does law old name to comes (reply.Alter given) new next turns = absurd turns

does_at_door : (make : DisplayMaker) → TurnsDoSome → (old : LookState) (new : EdfState) (name : List ℕ) (to : SourceLine) (comes : Bool) (given : Answer) (held : Bool)
    → MatchBool held (comes ≡ false) (ComesTo old.sources.places old.edf.region name to comes)
    → DoorAnswers make old.edf (if held then Keeps answer.Held old.edf.sessions else Passes (event.Turn name) None) given new
    → MatchBool held ((given ≡ answer.Held) × (comes ≡ false)) (RegionDoes old name to comes given new.region)
does_at_door make law old new name to comes given true ahead row = (row.0, ahead)
does_at_door make law old new name to comes given false ahead row =
    subst (λ (a : Answer). RegionDoes old name to comes a new.region) (sym row.answers)
    (region_does law old name to comes row.reply new.region ahead row.applies)

ends_before_line : (make : DisplayMaker) → TurnsDoSome → (old new : LookState) (name : List ℕ) (to : SourceLine) (line : Option (List ℕ)) (given : Answer) (has : Bool)
    → MatchBool has (StopsBeforeLine old.sources old.edf name to line) (line ≡ Some (no_line name to))
    → AppliesAtLooks make old (turn_of name) given new
    → MatchBool has (EndsBeforeLine old name to line given new) (line ≡ Some (no_line name to))
unfolding IsLineAhead EdfApplies door_of
ends_before_line make law old new name to line given true stops applied =
    record {
      does = stops.comes;
      done = does_at_door make law old new.edf name to stops.comes given (holds old.edf name) stops.ahead applied.noted.applies;
      is = stops.is;
    }
ends_before_line make law old new name to line given false none applied = none

pub runs_end_before_lines : TurnsDoSome → RunsEndBeforeLines
unfolding StopsWith
runs_end_before_lines law make old new name to line given stops applied =
    ends_before_line make law old new name to line given (has_statement old.sources.places to) stops applied

-- ---- there is one line
codes_decide : TurnsDecide → (state : EdfState) (name : List ℕ) (one other : Option (List ℕ)) (held : Bool) → MatchBool held (one ≡ None) (IsNextAbend state.region name one)
    → MatchBool held (other ≡ None) (IsNextAbend state.region name other) → one ≡ other
codes_decide decide state name one other true p q = p ∙ sym q
codes_decide decide state name one other false p q =
    p.is ∙ ap abend_code_in (decide state.region name p.reply q.reply p.after q.after p.turns q.turns).0 ∙ sym q.is

comes_decide : ArrivalsDecide → (sources : Sources) (state : EdfState) (name : List ℕ) (to : SourceLine) (one other : Bool) (held : Bool)
    → MatchBool held (one ≡ false) (ComesTo sources.places state.region name to one)
    → MatchBool held (other ≡ false) (ComesTo sources.places state.region name to other) → one ≡ other
comes_decide arrive sources state name to one other true p q = p ∙ sym q
comes_decide arrive sources state name to one other false p q = arrive sources.places state.region name to one other p q

lines_decide : ArrivalsDecide → (sources : Sources) (state : EdfState) (name : List ℕ) (to : SourceLine) (one other : Option (List ℕ)) (has : Bool)
    → MatchBool has (StopsBeforeLine sources state name to one) (one ≡ Some (no_line name to))
    → MatchBool has (StopsBeforeLine sources state name to other) (other ≡ Some (no_line name to)) → one ≡ other
unfolding IsLineAhead
lines_decide arrive sources state name to one other true p q =
    let same = comes_decide arrive sources state name to p.comes q.comes (holds state name) p.ahead q.ahead in
    p.is ∙ ap (λ (b : Bool). if b then Some (stopped_before_line name to) else None) same ∙ sym q.is
lines_decide arrive sources state name to one other false p q = p ∙ sym q

pub stops_decide : TurnsDecide → ArrivalsDecide → StopsDecide
unfolding StopsWith IsAbendAhead
stops_decide decide arrive stop.Never sources state name one other p q = p ∙ sym q
stops_decide decide arrive (stop.BeforeLine to) sources state name one other p q =
    lines_decide arrive sources state name to one other (has_statement sources.places to) p q
stops_decide decide arrive stop.BeforeAbend sources state name one other p q =
    p.is ∙ ap (option_map (stopped_before name)) (codes_decide decide state name p.code q.code (holds state name) p.ahead q.ahead) ∙ sym q.is
