-- What CHOICES writes, by the laws of its report.
use Rattle.std.proofs.Common.{Bool, List, Option, [], false, refl, subst, sym, true, true≢false, ℕ, zero, suc, ◌++◌, ◌∷◌}
use Rattle.std.specs.Prelude.{◌↔◌, IsTrue, MatchBool}
use Rattle.std.specs.List.{AllByRecursion}
use Rattle.cx_region.specs.State.{RegionState}
use Rattle.cx_edf.specs.Laws.Edf.{TheRegionIsOff}
use Rattle.cx_search.specs.Moves.{Leads}
use Rattle.cx_search.specs.Within.{IsClosed, IsOpen}
use Rattle.cx_orders.specs.Moves as orders
use Rattle.cx_orders.specs.declared.states.KeyLine.{KeyLine}
use Rattle.cx_choices.specs.Moves.{Goes, begun}
use Rattle.cx_choices.specs.declared.states.ChoicesState.{ChoicesState}
use Rattle.cx_look_lines.specs.Words.{Lines}
use Rattle.cx_look_steps.specs.Facts.Items.{item_too}
use Rattle.cx_look_steps.specs.Laws.{ScriptsAskForSteps}
use Rattle.cx_look_choices.specs.Laws.{PressesAreRuns, PressesLead}
use Rattle.cx_look_choices.specs.Presses.{ArePresses, IsPress, key_pressed, keys_pressed, moves_of, steps_of}
use Rattle.cx_look_choices.specs.Rows.{AreRows, IsArrow, IsOneOf, IsPlace, IsRow}
use Rattle.cx_look_choices.specs.declared.presses.Press.{Press}
use Rattle.cx_look_choices.specs.declared.rows.Arrow.{Arrow}
use Rattle.cx_look_choices.specs.declared.rows.StateRow.{StateRow}
use Rattle.cx_look.specs.Choices.{choices_block}
use Rattle.cx_look.specs.Laws.{ChoicesAreAskedByTheirLines, IsAskedByItsLine}
use Rattle.cx_look_script.specs.Laws.Orders.{ScriptsLeadThere}
use Rattle.cx_look_script.specs.Laws.Outcomes.{ScriptsNameTheirTerminals}
use Rattle.cx_headline.specs.Laws.Choices.{AreAll, AreReal, AreTrue, GoNoFurther, IsRealArrow, IsRealState, ListsLeadThere}
use Rattle.cx_headline.proofs.OrdersLemmas.{all_plain}

-- ---- presses, and one more
module _ (choices : List KeyLine) (one_number : Option ℕ) where
  presses_on : (from between to : ChoicesState) (presses : List Press) (press : Press) → ArePresses choices one_number from presses between
      → IsPress choices one_number between press to → ArePresses choices one_number from (presses ++ press ∷ []) to
  unfolding ArePresses
  presses_on from between to [] press are is =
      record { between = to; is = subst (λ s. IsPress choices one_number s press to) are is; rest = refl }
  presses_on from between to (first ∷ presses) press are is = record {
    between = are.between;
    is = are.is;
    rest = presses_on are.between between to presses press are.rest is;
  }

-- ---- what is written
module _ (off : TheRegionIsOff) (lead : PressesLead) (runs : PressesAreRuns) (scripts : ScriptsAskForSteps)
    (Shows : RegionState → Lines → Type 0) (choices : List KeyLine) (one_number : Option ℕ) (region : RegionState) where
  real : (presses : List Press) (to : ChoicesState) → ArePresses choices one_number (begun region) presses to
      → AreReal choices one_number region presses to
  real presses to are = record {
    are = are;
    leads = lead choices one_number (begun region) to presses are;
    run = λ none distinct.
        let run = runs choices region to presses distinct (subst (λ n. ArePresses choices n (begun region) presses to) none are) in
        record { run = run; off = λ make. off make region run.events run.replies to.region (all_plain run.events run.orders) run.run };
  }

  real_arrow : (states : List ChoicesState) (presses : List Press) (state : ChoicesState) (arrow : Arrow)
      → ArePresses choices one_number (begun region) presses state → IsArrow choices one_number region states state arrow
      → IsRealArrow choices one_number region states presses arrow
  real_arrow states presses state arrow are is =
      let press : Press = record { choice = arrow.choice; made = is.passage.made } in
      record {
        press = press;
        is = refl;
        to = is.to;
        real = real (presses ++ press ∷ []) is.to
            (presses_on choices one_number (begun region) state is.to presses press are
            (record { passage = is.passage; chooses = is.chooses; made = refl; leads = is.leads }));
        there = is.there;
      }

  real_state : (states : List ChoicesState) (texts : List Lines) (state : ChoicesState) (row : StateRow)
      → IsRow choices one_number region Shows states texts state row → IsRealState Shows choices one_number region states texts state row
  real_state states texts state row is = record {
    real = real row.presses state is.presses;
    soonest = is.soonest;
    text = is.text;
    shows = is.shows;
    screen = is.screen;
    script = scripts region (keys_pressed choices row.presses) (steps_of region choices row.presses);
    arrows = is.arrows;
    real_arrows = λ index arrow at. real_arrow states row.presses state arrow is.presses (is.arrows.each index arrow at);
  }

  module _ (keys : ℕ) (texts : List Lines) (rows : List StateRow) (are : AreRows Shows choices one_number region keys texts rows) where
    pub all_of : AreAll Shows choices one_number region keys are.states texts rows
    all_of = record {
      none_missed = λ moves state leads short.
          let one = are.all state (record { list = moves; leads = leads; short = short }) in
          let row = item_too are.states rows one.place state (sym are.many) one.at in
          record { place = one.place; at = one.at; row = row.0; there = row.1 };
      real = λ place state row at there. real_state are.states texts state row (are.each place state row at there);
      near = are.near.each;
      once = are.near.once;
      texts_once = are.screens.once;
    }

    pub closed_is : (is_closed : Bool)
        → MatchBool is_closed (IsClosed (Goes choices one_number) (begun region) keys) (IsOpen (Goes choices one_number) (begun region) keys)
        → IsTrue is_closed ↔ ((moves : List ℕ) (state : ChoicesState) → Leads (Goes choices one_number) (begun region) moves state → IsOneOf are.states state)
    closed_is true closed = (λ is moves state leads. are.all state (closed moves state leads), λ all. refl)
    closed_is false opened = (
      λ is. absurd (true≢false (sym is)),
      λ all. let one = all opened.list opened.state opened.leads in absurd (opened.new (are.near.each one.place opened.state one.at)),
    )

    pub go_no_further : ((moves : List ℕ) (state : ChoicesState) → Leads (Goes choices one_number) (begun region) moves state → IsOneOf are.states state)
        → GoNoFurther rows
    unfolding IsPlace
    go_no_further all place index row arrow there at none =
        let s = item_too rows are.states place row are.many there in
        let is = are.each place s.0 row s.1 there in
        let on = real_arrow are.states row.presses s.0 arrow is.presses (is.arrows.each index arrow at) in
        subst (λ o. IsPlace are.states on.to o) none on.there (all (moves_of (row.presses ++ on.press ∷ [])) on.to on.real.leads)

  pub are_true : (edf : List (List ℕ)) (keys most : ℕ) (lines : Lines) → AreTrue Shows choices one_number region edf keys most lines
  are_true edf keys most lines = record {
    whole = λ it.
        let closed = closed_is keys it.texts it.rows it.are it.is_closed it.closed in
        record {
          all = all_of keys it.texts it.rows it.are;
          closed = closed;
          no_further = λ is. go_no_further keys it.texts it.rows it.are (closed.0 is);
        };
    cut = λ it. record { all = all_of it.at it.texts it.rows it.are; more = it.more };
  }

-- ---- the lines that are written
-- the keys of presses are choices
module _ (Holds : KeyLine → Type 0) (choices : List KeyLine) (all : AllByRecursion Holds choices) where
  of_pressed : (keys others : List KeyLine) → AllByRecursion Holds keys → AllByRecursion Holds others → AllByRecursion Holds (keys ++ others)
  of_pressed [] others one other = other
  of_pressed (key ∷ keys) others one other = (one.0, of_pressed keys others one.1 other)

  at_choice : (keys : List KeyLine) (number : ℕ) → AllByRecursion Holds keys → AllByRecursion Holds (key_pressed keys number)
  at_choice [] number each = tt
  at_choice (key ∷ keys) zero each = (each.0, tt)
  at_choice (key ∷ keys) (suc number) each = at_choice keys number each.1

  pub of_choices : (presses : List Press) → AllByRecursion Holds (keys_pressed choices presses)
  of_choices [] = tt
  of_choices (press ∷ presses) =
      of_pressed (key_pressed choices press.choice) (keys_pressed choices presses) (at_choice choices press.choice all) (of_choices presses)

pub lists_lead : PressesAreRuns → ScriptsLeadThere → ScriptsNameTheirTerminals → ChoicesAreAskedByTheirLines → ListsLeadThere
lists_lead runs scripts named keys make state it asked lines presses to are =
    let names = named make state it in
    let choices = (choices_block asked lines).choices in
    let run = runs choices state.edf.region to presses names.apart are in
    record {
      run = run;
      lead = scripts make state (keys_pressed choices presses) (steps_of state.edf.region choices presses) (orders.begun to.region) names.spelled
          (of_choices IsAskedByItsLine choices (keys asked lines) presses) run;
    }
