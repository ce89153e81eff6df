-- Lists, and keys after them, made once more with numbers of tasks that count on.
use Rattle.std.proofs.Common.{◌≡◌, ℕ, ◌+◌, ◌<◌, ◌≤◌, suc, Bool, true, false, true≢false, List, drop, length, Option, Some, None, inl, inr, ap, refl, sym, subst, ◌∙◌, arith}
use Rattle.std.specs.Prelude.{◌↔◌, IsTrue, MatchBool, MatchOption, is_some, not, slice_get}
use Rattle.std.proofs.lemmas.List.{drop_all}
use Rattle.std.proofs.lemmas.Option.{none-some}
use Rattle.cx_look_lines.specs.Words.{Lines}
use Rattle.cx_look_tasks.specs.Laws.{WaitsTextsDecide}
use Rattle.cx_region.specs.State.{RegionState}
use Rattle.cx_orders.specs.declared.states.IncidentAt.{IncidentAt}
use Rattle.cx_orders.specs.declared.states.KeyLine.{KeyLine}
use Rattle.cx_choices.specs.Laws.{PassagesDecide}
use Rattle.cx_choices.specs.Moves.{Chooses, begun, numbered}
use Rattle.cx_choices.specs.declared.states.ChoicesState.{ChoicesState}
use Rattle.cx_choices.specs.declared.states.Passage.{Passage}
use Rattle.cx_choices.specs.declared.states.TurnMade.{TurnMade}
use Rattle.cx_look_steps.specs.Facts.Lists.{drop_item, drop_none}
use Rattle.cx_look_choices.specs.Facts.Presses.{ends_decide, one_press, same_state}
use Rattle.cx_look_choices.specs.Facts.Rows.{text_decides}
use Rattle.cx_look_choices.specs.Parts.Ways.{AreCompared}
use Rattle.cx_look_choices.specs.Presses.{ArePresses, IsPress}
use Rattle.cx_look_choices.specs.Rows.{AreSameKeys, CannotPress, Differs, Does, IsSameKey, IsSameList, ShowSame, passage_incidents}
use Rattle.cx_look_choices.specs.States.{StateText}
use Rattle.cx_look_choices.specs.declared.numbers.KeyDone.{KeyDone}
use Rattle.cx_look_choices.specs.declared.presses.Press.{Press}

one_more : (n : ℕ) → n + 1 ≡ suc n
one_more n = omega arith

-- ---- texts
pub shown_by : WaitsTextsDecide → (Shows : RegionState → Lines → Type 0)
    → ((region : RegionState) (one other : Lines) → Shows region one → Shows region other → one ≡ other)
    → (one other : ChoicesState) (first second : Lines) → StateText Shows one first → StateText Shows other second
    → (same : Bool) → (IsTrue same ↔ (first ≡ second)) → MatchBool same (ShowSame Shows one other) (ShowSame Shows one other → ⊥)
shown_by waits Shows shown one other first second s t true is =
    record { text = second; shows = subst (StateText Shows one) (is.0 refl) s; also = t }
shown_by waits Shows shown one other first second s t false is = λ both.
    let e = text_decides waits Shows shown one first both.text s both.shows in
    let d = text_decides waits Shows shown other second both.text t both.also in
    true≢false (sym (is.1 (e ∙ sym d)))

-- ---- a key
module _ (decide : PassagesDecide) (choices : List KeyLine) (region : RegionState) where
  does_one : (one_number : Option ℕ) (from : ChoicesState) (number : ℕ) (ones others : List IncidentAt) (to also : ChoicesState)
      → Does choices region one_number from number ones to → Does choices region one_number from number others also
      → (ones ≡ others) × (to ≡ also)
  does_one one_number from number ones others to also is too =
      let same = decide choices one_number from.region number is.passage too.passage is.chooses too.chooses in (
        is.is ∙ ap (λ (p : Passage). passage_incidents region choices number p) same ∙ sym too.is,
        same_state to also (is.leads ∙ ap (λ (p : Passage). numbered one_number p.after) same ∙ sym too.leads),
      )

  module _ (Shows : RegionState → Lines → Type 0) (one_number : Option ℕ) (from real : ChoicesState) (number : ℕ) where
    abbrev pub Same : Type 0
    Same = IsSameKey Shows choices one_number region from real number

    abbrev pub IsDone : Option ℕ → ChoicesState → Option KeyDone → Type 0
    IsDone numbers state done =
        MatchOption done (CannotPress choices region numbers state number)
        (λ (d : KeyDone). Does choices region numbers state number d.incidents d.to)

    pub done_none : (one : Option KeyDone) → IsDone one_number from one → one ≡ None → (other : Option KeyDone) → IsDone None real other
        → (neither : Bool) → is_some other ≡ not neither → MatchBool neither Same (Same → ⊥)
    done_none (Some d) does is other again neither e = absurd (none-some d (sym is))
    done_none None cannot is None never true e = inl (cannot, never)
    done_none None cannot is None never false e = absurd (true≢false (sym e))
    done_none None cannot is (Some d) again true e = absurd (true≢false e)
    done_none None cannot is (Some d) again false e = λ same. elim same [
      | inl p ↦ p.1 again.passage again.chooses
      | inr q ↦ cannot q.does.passage q.does.chooses
    ]

    pub done_once : (d : KeyDone) → Does choices region one_number from number d.incidents d.to → (other : Option KeyDone)
        → IsDone None real other → other ≡ None → Same → ⊥
    done_once d does None never is same = elim same [
      | inl p ↦ p.0 does.passage does.chooses
      | inr q ↦ never q.again.passage q.again.chooses
    ]
    done_once d does (Some e) again is same = none-some e (sym is)

    module _ (d e : KeyDone) (does : Does choices region one_number from number d.incidents d.to)
        (again : Does choices region None real number e.incidents e.to) where
      pub other_incidents : (d.incidents ≡ e.incidents → ⊥) → Same → ⊥
      other_incidents differ same = elim same [
        | inl p ↦ p.0 does.passage does.chooses
        | inr q ↦
            let one = does_one one_number from number d.incidents q.incidents d.to q.one does q.does in
            let other = does_one None real number e.incidents q.incidents e.to q.other again q.again in
            differ (one.0 ∙ sym other.0)
      ]

      pub done_both : d.incidents ≡ e.incidents → (same : Bool) → MatchBool same (ShowSame Shows d.to e.to) (ShowSame Shows d.to e.to → ⊥)
          → MatchBool same Same (Same → ⊥)
      done_both incidents true shows = inr (record {
        incidents = d.incidents;
        one = d.to;
        does = does;
        other = e.to;
        again = subst (λ is. Does choices region None real number is e.to) (sym incidents) again;
        same = shows;
      })
      done_both incidents false never = λ same. elim same [
        | inl p ↦ p.0 does.passage does.chooses
        | inr q ↦
            let one = does_one one_number from number q.incidents d.incidents q.one d.to q.does does in
            let other = does_one None real number q.incidents e.incidents q.other e.to q.again again in
            never (subst (λ t. ShowSame Shows d.to t) other.1 (subst (λ t. ShowSame Shows t q.other) one.1 q.same))
      ]

-- ---- presses
pub press_made : PassagesDecide → (choices : List KeyLine) (from : ChoicesState) (press : Press) (passage : Passage) (made : List TurnMade)
    → made ≡ passage.made → Chooses choices None from.region press.choice passage → (press.made ≡ made → ⊥)
    → (to : ChoicesState) → IsPress choices None from press to → ⊥
press_made decide choices from press passage made same chooses differ to is =
    let one = decide choices None from.region press.choice is.passage passage is.chooses chooses in
    differ (is.made ∙ ap (λ (p : Passage). p.made) one ∙ sym same)

-- so many of the presses lead from the start to a state
pub record IsAgain (choices : List KeyLine) (start : ChoicesState) (presses : List Press) (done : ℕ) (at : ChoicesState) : Type 0 where
  pub on : (to : ChoicesState) → ArePresses choices None at (drop done presses) to → ArePresses choices None start presses to
  pub back : (to : ChoicesState) → ArePresses choices None start presses to → ArePresses choices None at (drop done presses) to

pub again_begins : (choices : List KeyLine) (start : ChoicesState) (presses : List Press) → IsAgain choices start presses 0 start
again_begins choices start presses = record {
  on = λ to are. subst (λ ps. ArePresses choices None start ps to) (drop_none presses) are;
  back = λ to are. subst (λ ps. ArePresses choices None start ps to) (sym (drop_none presses)) are;
}

pub again_ends : (choices : List KeyLine) (start at : ChoicesState) (presses : List Press) (done : ℕ) → IsAgain choices start presses done at
    → length presses ≤ done → ArePresses choices None start presses at
unfolding ArePresses
again_ends choices start at presses done is all =
    is.on at (subst (λ ps. ArePresses choices None at ps at) (sym (drop_all done presses all)) refl)

module _ (choices : List KeyLine) (start at : ChoicesState) (presses : List Press) (done : ℕ) (is : IsAgain choices start presses done at)
    (press : Press) (there : slice_get presses done ≡ Some press) where
  pub again_goes_on : PassagesDecide → (next : ChoicesState) → IsPress choices None at press next → IsAgain choices start presses (done + 1) next
  unfolding ArePresses
  again_goes_on decide next pressed = record {
    on = λ to are.
        is.on to (subst (λ ps. ArePresses choices None at ps to) (sym (drop_item presses done press there))
        (record { between = next; is = pressed; rest = subst (λ n. ArePresses choices None next (drop n presses) to) (one_more done) are }));
    back = λ to are.
        let it = subst (λ ps. ArePresses choices None at ps to) (drop_item presses done press there) (is.back to are) in
        let same = one_press decide choices None at it.between next press press it.is pressed refl in
        subst (λ n. ArePresses choices None next (drop n presses) to) (sym (one_more done))
        (subst (λ s. ArePresses choices None s (drop (suc done) presses) to) same.1 it.rest);
  }

  pub again_stops : ((to : ChoicesState) → IsPress choices None at press to → ⊥) → (to : ChoicesState)
      → ArePresses choices None start presses to → ⊥
  unfolding ArePresses
  again_stops never to are =
      let it = subst (λ ps. ArePresses choices None at ps to) (drop_item presses done press there) (is.back to are) in
      never it.between it.is

-- ---- a list, and the keys after it
module _ (Shows : RegionState → Lines → Type 0) (choices : List KeyLine) (region : RegionState) (state : ChoicesState) (presses : List Press) where
  pub compared_without : (one_number : Option ℕ) → one_number ≡ None → AreCompared Shows choices one_number region state presses false false
  unfolding Differs
  compared_without None is = record { listed = refl; pressed = refl }
  compared_without (Some number) is = absurd (none-some number (sym is))

  pub compared_never : (one_number : Option ℕ) (number : ℕ) → one_number ≡ Some number
      → ((to : ChoicesState) → ArePresses choices None (begun region) presses to → ⊥)
      → AreCompared Shows choices one_number region state presses true true
  unfolding Differs
  compared_never None number is never = absurd (none-some number is)
  compared_never (Some other) number is never = record {
    listed = λ (same : IsSameList Shows choices (Some other) region state presses). never same.real same.made;
    pressed = λ (same : AreSameKeys Shows choices (Some other) region state presses). never same.real same.made;
  }

  module _ (decide : PassagesDecide) (number : ℕ) (real : ChoicesState) (made : ArePresses choices None (begun region) presses real) where
    abbrev KeysSame : ChoicesState → Type 0
    KeysSame at = (k : ℕ) → k < length choices → IsSameKey Shows choices (Some number) region state at k

    listed_by : (same : Bool) → MatchBool same (ShowSame Shows state real) (ShowSame Shows state real → ⊥)
        → Differs (Some number) (IsSameList Shows choices (Some number) region state presses) (not same)
    unfolding Differs
    listed_by true shows = record { real = real; made = made; same = shows }
    listed_by false never = λ (it : IsSameList Shows choices (Some number) region state presses).
        never (subst (λ s. ShowSame Shows state s) (ends_decide decide choices None (begun region) it.real real presses it.made made) it.same)

    pressed_by : (same : Bool) → MatchBool same (KeysSame real) (KeysSame real → ⊥)
        → Differs (Some number) (AreSameKeys Shows choices (Some number) region state presses) (not same)
    unfolding Differs
    pressed_by true keys = record { real = real; made = made; keys = keys }
    pressed_by false never = λ (it : AreSameKeys Shows choices (Some number) region state presses).
        never (subst KeysSame (ends_decide decide choices None (begun region) it.real real presses it.made made) it.keys)

    pub compared_by : (one_number : Option ℕ) → one_number ≡ Some number → (list : Bool)
        → MatchBool list (ShowSame Shows state real) (ShowSame Shows state real → ⊥) → (keys : Bool)
        → MatchBool keys ((k : ℕ) → k < length choices → IsSameKey Shows choices one_number region state real k)
        (((k : ℕ) → k < length choices → IsSameKey Shows choices one_number region state real k) → ⊥)
        → AreCompared Shows choices one_number region state presses (not list) (not keys)
    compared_by one_number is list shows keys are =
        subst (λ o. AreCompared Shows choices o region state presses (not list) (not keys)) (sym is) (record {
          listed = listed_by list shows;
          pressed = pressed_by keys (subst
              (λ o. MatchBool keys ((k : ℕ) → k < length choices → IsSameKey Shows choices o region state real k)
              (((k : ℕ) → k < length choices → IsSameKey Shows choices o region state real k) → ⊥)) is are);
        })
