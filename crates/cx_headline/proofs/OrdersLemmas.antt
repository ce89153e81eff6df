-- What ORDERS writes, by the laws of its report.
use Rattle.std.proofs.Common.{Bool, List, None, Option, Some, [], false, refl, sym, true, true≢false, ℕ, ◌∷◌, ◌≡◌}
use Rattle.std.specs.Prelude.{◌↔◌, IsSome, IsTrue, MatchBool}
use Rattle.std.specs.List.{AllByRecursion}
use Rattle.cx_region.specs.State.{RegionState}
use Rattle.cx_region.specs.declared.replies.Event.{Event}
use Rattle.cx_region.specs.declared.replies.Event.TheVariants as event
use Rattle.cx_edf.specs.Laws.Edf.{TheRegionIsOff, is_alteration}
use Rattle.cx_search.specs.Forever.{IsLong}
use Rattle.cx_search.specs.Laws.{SoonerOrders}
use Rattle.cx_orders.specs.Laws.{IsOrder}
use Rattle.cx_orders.specs.Moves.{Moves, begun}
use Rattle.cx_orders.specs.declared.states.Keys.{Keys}
use Rattle.cx_orders.specs.declared.states.OrdersState.{OrdersState}
use Rattle.cx_look_lines.specs.Words.{Lines}
use Rattle.cx_look_orders.specs.Facts.Outcomes.{texts_stand_once}
use Rattle.cx_look_orders.specs.Laws.{LoopsAreEndless}
use Rattle.cx_look_steps.specs.Laws.{ScriptsAskForSteps, StepsAreRuns}
use Rattle.cx_look_orders.specs.Outcomes.{AllCanRest, AreOutcomes, IsOutcome, IsStuck, MayLoop}
use Rattle.cx_look_steps.specs.Steps.{Telling}
use Rattle.cx_look_orders.specs.declared.outcomes.Outcome.{Outcome}
use Rattle.cx_look_steps.specs.declared.steps.Step.{Step}
use Rattle.cx_headline.specs.Laws.Orders.{AreAll, AreTrue, IsReal, LinesLeadThere}
use Rattle.cx_look.specs.Laws.{KeysAreAskedByTheirLines}
use Rattle.cx_look.specs.Orders.{orders_block}
use Rattle.cx_look_script.specs.Laws.Orders.{ScriptsLeadThere}
use Rattle.cx_look_script.specs.Laws.Outcomes.{ScriptsNameTheirTerminals}

-- ---- turns and keys alter nothing
plain : (e : Event) → IsOrder e → is_alteration e ≡ false
plain (event.Turn name) is = refl
plain (event.Key name aid bytes) is = refl
plain (event.Alter name change) is = absurd is
plain (event.Program name image) is = refl
plain (event.Transaction name program) is = refl
plain (event.Terminal name) is = refl
plain (event.Clock time date) is = refl

pub all_plain : (events : List Event) → AllByRecursion IsOrder events → AllByRecursion (λ e. is_alteration e ≡ false) events
all_plain [] all = all
all_plain (e ∷ events) all = (plain e all.0, all_plain events all.1)

-- ---- what is written
module _ (off : TheRegionIsOff) (runs : StepsAreRuns) (scripts : ScriptsAskForSteps) (sooner : SoonerOrders)
    (endless : (tells : Telling) (keys : Keys) → LoopsAreEndless tells keys)
    (Shows : RegionState → Lines → Type 0) (tells : Telling) (keys : Keys) (region : RegionState) where
  abbrev start : OrdersState
  start = begun region

  real : (one : Outcome) (cut : Option ℕ) → IsOutcome Shows tells keys start cut one → IsReal Shows tells keys region one
  real one cut is =
      let run = runs tells keys start is.to one.steps is.steps in record {
        to = is.to;
        steps = is.steps;
        rest = is.rest;
        shows = is.shows;
        script = scripts region keys.lines one.steps;
        run = run;
        off = λ make. off make region run.events run.replies is.to.region
            (all_plain run.events run.orders) run.run;
        soonest = is.soonest;
      }

  all_of : (cut : Option ℕ) (outcomes : List Outcome) → AreOutcomes Shows tells keys start cut outcomes → AreAll Shows tells keys region cut outcomes
  all_of cut outcomes are = record {
    none_missed = are.all;
    written = are.written;
    real = λ place one at. real one cut (are.each place one at);
    once = texts_stand_once sooner Shows tells keys start cut outcomes are;
  }

  never_rest : (loop : Option (List Step)) → MayLoop tells keys start loop
      → IsSome loop ↔ ((least : ℕ) → IsLong (Moves keys) start least)
  never_rest (Some steps) first = (λ is. (endless tells keys).endless start steps first, λ long. refl)
  never_rest None bounded = (λ is. absurd (true≢false (sym is)), λ long. absurd ((endless tells keys).bounded start bounded long))

  cannot_rest : (is_stuck : Bool) → MatchBool is_stuck (IsStuck keys start) (AllCanRest keys start) → IsTrue is_stuck ↔ IsStuck keys start
  cannot_rest true stuck = (λ is. stuck, λ s. refl)
  cannot_rest false all = (λ is. absurd (true≢false (sym is)), λ s. absurd (s.never (all s.moves s.there s.leads)))

  pub are_true : (edf : List (List ℕ)) (most : ℕ) (lines : Lines) → AreTrue Shows tells keys region edf most lines
  are_true edf most lines = record {
    whole = λ it. record {
      all = all_of None it.outcomes it.are;
      never_rest = never_rest it.loop it.may_loop;
      cannot_rest = cannot_rest it.is_stuck it.may_stick;
    };
    cut = λ it. all_of (Some it.moves) it.outcomes it.are;
  }

-- ---- the lines that are written
pub lines_lead : ScriptsLeadThere → ScriptsNameTheirTerminals → KeysAreAskedByTheirLines → LinesLeadThere
lines_lead scripts named keys make state it asked lines steps to run =
    scripts make state (orders_block asked lines).keys steps to (named make state it).spelled (keys asked lines) run
