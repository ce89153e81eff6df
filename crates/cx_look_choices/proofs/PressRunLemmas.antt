-- Presses are runs of the region.
use Rattle.std.proofs.Common.{◌≡◌, ℕ, List, [], ◌∷◌, ◌++◌, length, map, Bool, true, false, true≢false, cond, Option, Some, None, ap, refl, sym, subst, ◌∙◌, append_assoc}
use Rattle.std.specs.Prelude.{option_map, position, slice_get, unwrap_or}
use Rattle.std.specs.List.{AllByRecursion, IsDistinct}
use Rattle.std.specs.Map.{keys_of as names_of}
use Rattle.std.specs.Option.{option_and_then, option_map_or}
use Rattle.std.proofs.lemmas.Cmp.{nat_list_eq_equiv}
use Rattle.std.proofs.lemmas.Map.Entries.{lookup_from_place, place_from_lookup}
use Rattle.cx_ebcdic.specs.Names.{is_name}
use Rattle.cx_ebcdic.specs.Facts.Names.{is_name-decides}
use Rattle.cx_region.specs.Attach.{input_from}
use Rattle.cx_region.specs.Events.{Applies, Run}
use Rattle.cx_region.specs.State.{RegionState, TerminalState}
use Rattle.cx_region.specs.Tables.{terminal_of}
use Rattle.cx_region.specs.Turn.{TakesTurn}
use Rattle.cx_region.specs.declared.replies.Event.{Event}
use Rattle.cx_region.specs.declared.replies.Event.TheVariants as event
use Rattle.cx_region.specs.declared.replies.Reply.{Reply}
use Rattle.cx_region.specs.declared.replies.Reply.TheVariants as reply
use Rattle.cx_region_laws.specs.Laws.Regions.{KeysKeepToTheirTerminal, TurnsKeepToTheirTask}
use Rattle.cx_region_state.specs.declared.replies.TurnReply.{TurnReply}
use Rattle.cx_look_tasks.specs.Activities.{is_acting, is_waiting}
use Rattle.cx_look_tasks.specs.declared.activities.Activity.{Activity}
use Rattle.cx_look_tasks.specs.declared.activities.Activity.TheVariants.{Due, NoTask, Running, Waiting}
use Rattle.cx_orders.specs.Laws.{ActingTurnsMove, IsOrder}
use Rattle.cx_orders.specs.Moves.{is_move, keys_of}
use Rattle.cx_orders.specs.declared.states.KeyLine.{KeyLine}
use Rattle.cx_choices.specs.Moves.{Presses, begun}
use Rattle.cx_choices.specs.Settling.{CanAct, MakesTurns}
use Rattle.cx_choices.specs.declared.states.ChoicesState.{ChoicesState}
use Rattle.cx_choices.specs.declared.states.Passage.{Passage}
use Rattle.cx_choices.specs.declared.states.TurnMade.{TurnMade}
use Rattle.cx_look_steps.specs.Laws.{IsMoveReply, event_at, event_of_step}
use Rattle.cx_look_steps.specs.declared.steps.Step.{Step}
use Rattle.cx_look_choices.specs.Laws.{PressesAreRuns}
use Rattle.cx_look_choices.specs.Presses.{ArePresses, key_pressed, key_step, keys_pressed, press_steps, steps_after, turn_step}
use Rattle.cx_look_choices.specs.declared.presses.Press.{Press}
use Rattle.cx_look_choices.proofs.ItemLemmas.{item_mapped, position_at}

-- ---- a turn of a terminal that can act
not_waiting : (activity : Activity) → is_acting activity ≡ true → is_waiting activity ≡ false
not_waiting Running is = refl
not_waiting (Due command) is = refl
not_waiting NoTask is = absurd (true≢false (sym is))
not_waiting (Waiting wait) is = absurd (true≢false (sym is))

-- is a move
turn_moves : ActingTurnsMove → (region : RegionState) (number : ℕ) (name : List ℕ) → IsDistinct is_name (names_of region.terminals)
    → CanAct region number name → (answer : TurnReply) (new : RegionState) → TakesTurn region name answer new → is_move answer ≡ true
turn_moves moves region number name distinct can answer new takes =
    moves region new name can.terminal can.activity answer
    (lookup_from_place nat_list_eq_equiv region.terminals number name can.terminal distinct can.at)
    can.is (λ none. true≢false (sym can.acts ∙ ap is_acting none)) (not_waiting can.activity can.acts) takes

-- ---- the keys of a terminal
-- after those that came before there is the next
next_key : (name : List ℕ) (before after : List KeyLine) (key : KeyLine) → is_name key.name name ≡ true
    → slice_get (keys_of (before ++ key ∷ after) name) (length (keys_of before name)) ≡ Some key
next_key name [] after key is = by (is_name key.name name) is
  where
    by : (b : Bool) → b ≡ true → slice_get (cond b (key ∷ keys_of after name) (keys_of after name)) 0 ≡ Some key
    by true e = refl
    by false e = absurd (true≢false (sym e))
next_key name (first ∷ before) after key is = by (is_name first.name name) (next_key name before after key is)
  where
    by : (b : Bool) → slice_get (keys_of (before ++ key ∷ after) name) (length (keys_of before name)) ≡ Some key
        → slice_get (cond b (first ∷ keys_of (before ++ key ∷ after) name) (keys_of (before ++ key ∷ after) name))
        (length (cond b (first ∷ keys_of before name) (keys_of before name))) ≡ Some key
    by true there = there
    by false there = there

-- ---- runs, by the names of the terminals
record Runs (names : List (List ℕ)) (keys : List KeyLine) (from : RegionState) (steps : List Step) (to : RegionState) : Type 0 where
  events : List Event
  replies : List Reply
  are : map (event_of_step names keys) steps ≡ map Some events
  orders : AllByRecursion IsOrder events
  moves : AllByRecursion IsMoveReply replies
  run : Run from events replies to

module _ (acting : ActingTurnsMove) (turned : TurnsKeepToTheirTask) (keyed : KeysKeepToTheirTerminal)
    (names : List (List ℕ)) (distinct : IsDistinct is_name names) (keys : List KeyLine) where
  abbrev Named : RegionState → Type 0
  Named region = names_of region.terminals ≡ names

  -- one step, and then a run
  run_on : (from between to : RegionState) (step : Step) (steps : List Step) (what : Event) (answer : Reply) → event_of_step names keys step ≡ Some what
      → IsOrder what → IsMoveReply answer → Applies from what answer between → Runs names keys between steps to → Runs names keys from (step ∷ steps) to
  unfolding Run
  run_on from between to step steps what answer is order move applies rest = record {
    events = what ∷ rest.events;
    replies = answer ∷ rest.replies;
    are = ap (λ e. e ∷ map (event_of_step names keys) steps) is ∙ ap (λ es. Some what ∷ es) rest.are;
    orders = (order, rest.orders);
    moves = (move, rest.moves);
    run = (between, applies, rest.run);
  }

  -- ---- turns
  turns_named : (from to : RegionState) (made : List TurnMade) → MakesTurns from made to → Named from → Named to
  unfolding MakesTurns
  turns_named from to [] is named = ap (λ (r : RegionState). names_of r.terminals) is ∙ named
  turns_named from to (t ∷ made) is named =
      turns_named is.between to made is.rest ((turned from is.name t.reply is.between is.takes).names ∙ named)

  name_at : (from : RegionState) (number : ℕ) (name : List ℕ) → CanAct from number name → Named from → slice_get names number ≡ Some name
  name_at from number name can named =
      ap (λ ns. slice_get ns number) (sym named)
      ∙ item_mapped (λ (entry : List ℕ × TerminalState). entry.0) from.terminals number (name, can.terminal) can.at

  after_turns : (from between to : RegionState) (made : List TurnMade) (steps : List Step) → Named from → MakesTurns from made between
      → Runs names keys between steps to → Runs names keys from (map turn_step made ++ steps) to
  unfolding MakesTurns Applies
  after_turns from between to [] steps named is rest = subst (λ r. Runs names keys r steps to) is rest
  after_turns from between to (t ∷ made) steps named is rest =
      let on = (turned from is.name t.reply is.between is.takes).names ∙ named in
      run_on from is.between to (turn_step t) (map turn_step made ++ steps) (event.Turn is.name) (reply.Turn t.reply)
      (ap (λ o. option_and_then (λ (n : List ℕ). event_at keys n None) o) (name_at from t.number is.name is.first.acts named))
      tt
      (turn_moves acting from t.number is.name (subst (IsDistinct is_name) (sym named) distinct) is.first.acts t.reply is.between is.takes)
      is.takes
      (after_turns is.between between to made steps on is.rest rest)

  -- ---- keys
  module _ (region : RegionState) (named : Named region) where
    -- the terminal of that name has that number
    key_at : (from : RegionState) (terminal : TerminalState) (key : KeyLine) (came : ℕ) → Named from → terminal_of from key.name ≡ Some terminal
        → slice_get (keys_of keys key.name) came ≡ Some key
        → event_of_step names keys (record { number = unwrap_or (position (is_name key.name) (names_of region.terminals)) 0; key = Some came; told = None })
        ≡ Some (event.Key key.name key.aid key.bytes)
    key_at from terminal key came also there next =
        let entry = place_from_lookup (is_name key.name) from.terminals terminal there in
        let place = item_mapped (λ (e : List ℕ × TerminalState). e.0) from.terminals entry.0 (entry.1, terminal) entry.2 in
        let first = position_at (is_name key.name) (names_of region.terminals) entry.0 entry.1
        (ap (λ ns. slice_get ns entry.0) (named ∙ sym also) ∙ place) entry.3 in
        let name = (is_name-decides key.name first.1.1.0).0 first.1.1.1.1 in
        ap (λ (o : Option ℕ). option_and_then (λ (n : List ℕ). event_at keys n (Some came)) (slice_get names (unwrap_or o 0))) first.1.0
        ∙ ap (λ o. option_and_then (λ (n : List ℕ). event_at keys n (Some came)) o)
        (ap (λ ns. slice_get ns first.0) (sym named) ∙ first.1.1.1.0 ∙ ap Some (sym name))
        ∙ ap (λ (o : Option KeyLine). option_map (λ (k : KeyLine). event.Key key.name k.aid k.bytes) o) next

    after_key : (from to : RegionState) (key : KeyLine) (before after : List KeyLine) (passage : Passage) (steps : List Step) → keys ≡ before ++ key ∷ after
        → Named from → Presses key from passage → Runs names keys passage.after steps to
        → Runs names keys from (key_step region before key ∷ (map turn_step passage.made ++ steps)) to
    unfolding Applies
    after_key from to key before after passage steps all also is rest =
        let on = (keyed from key.name (input_from key.aid key.bytes) passage.reply is.between is.takes).names ∙ also in
        run_on from is.between to (key_step region before key) (map turn_step passage.made ++ steps) (event.Key key.name key.aid key.bytes)
        (reply.Key passage.reply)
        (key_at from is.ready.terminal key (length (keys_of before key.name)) also is.ready.there
        (ap (λ ks. slice_get (keys_of ks key.name) (length (keys_of before key.name))) all
        ∙ next_key key.name before after key ((is_name-decides key.name key.name).1 refl)))
        tt tt is.takes
        (after_turns is.between passage.after to passage.made steps on is.settles.turns rest)

    pressed_named : (from : RegionState) (key : KeyLine) (passage : Passage) → Named from → Presses key from passage → Named passage.after
    pressed_named from key passage also is =
        turns_named is.between passage.after passage.made is.settles.turns
        ((keyed from key.name (input_from key.aid key.bytes) passage.reply is.between is.takes).names ∙ also)

    -- ---- presses
    runs : (choices before : List KeyLine) (from to : ChoicesState) (presses : List Press) → keys ≡ before ++ keys_pressed choices presses
        → Named from.region → ArePresses choices None from presses to → Runs names keys from.region (steps_after region choices before presses) to.region
    unfolding ArePresses steps_after Run
    runs choices before from to [] all also are =
        record { events = []; replies = []; are = refl; orders = tt; moves = tt; run = ap (λ (s : ChoicesState). s.region) are }
    runs choices before from to (press ∷ presses) all also are =
        let is = are.is in
        let key = is.chooses.choice in
        let passage = is.passage in
        let one : key_pressed choices press.choice ≡ key ∷ [] =
        ap (λ (o : Option KeyLine). option_map_or (λ (k : KeyLine). k ∷ []) o []) is.chooses.is in
        let after = keys_pressed choices presses in
        let parts : keys ≡ before ++ (key_pressed choices press.choice ++ after) = all in
        let first : keys ≡ before ++ key ∷ after = parts ∙ ap (λ (ks : List KeyLine). before ++ (ks ++ after)) one in
        let on : Named are.between.region =
        ap (λ (r : RegionState). names_of r.terminals) is.leads ∙ pressed_named from.region key passage also is.chooses.presses in
        let rest = runs choices (before ++ key_pressed choices press.choice) are.between to presses
        (parts ∙ sym (append_assoc before (key_pressed choices press.choice) after)) on are.rest in
        let steps = steps_after region choices (before ++ key_pressed choices press.choice) presses in
        subst (λ ks. Runs names keys from.region (press_steps region before ks press.made ++ steps) to.region) (sym one)
        (subst (λ made. Runs names keys from.region (key_step region before key ∷ (map turn_step made ++ steps)) to.region) (sym is.made)
        (after_key from.region to.region key before after passage steps first also is.chooses.presses
        (subst (λ r. Runs names keys r steps to.region) is.leads rest)))

pub presses_are_runs : ActingTurnsMove → TurnsKeepToTheirTask → KeysKeepToTheirTerminal → PressesAreRuns
presses_are_runs acting turned keyed choices region to presses distinct are =
    let it = runs acting turned keyed (names_of region.terminals) distinct (keys_pressed choices presses) region refl choices [] (begun region) to
    presses refl refl are in
    record { events = it.events; replies = it.replies; are = it.are; orders = it.orders; moves = it.moves; run = it.run }
