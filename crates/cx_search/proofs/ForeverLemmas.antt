-- States that are come to again, and states from which no rest can be come to.
use Rattle.std.proofs.Common.{◌≡◌, ℕ, zero, suc, ◌<◌, ◌≤◌, Bool, true, false, true≢false, List, [], ◌∷◌, ◌++◌, length, Option, Some, None, inl, inr, sym, subst, refl, ◌∙◌, ap, arith, cond}
use Rattle.std.specs.Prelude.{find, not, nat_lt, ◌&&◌, slice_get, slice_set, replicate, IfSome, IfNone, MatchOption}
use Rattle.std.proofs.lemmas.Bool.{lt-ltb, ltb-true}
use Rattle.std.proofs.lemmas.Option.{none-some, same_Some, slice_get_within}
use Rattle.cx_search.specs.declared.found.Origin.{Origin}
use Rattle.cx_search.specs.declared.marks.Rule.TheVariants.{All, Any}
use Rattle.cx_search.specs.Finds.{IsWhole}
use Rattle.cx_search.specs.Forever.{CanRest, IsFirstPlaceOf, IsPlaceOf, Loops}
use Rattle.cx_search.specs.Found.{IsAt}
use Rattle.cx_search.specs.Parts.Marks.{AreRight, AreStable, IsComeTo, is_free, is_marked}
use Rattle.cx_search.specs.Moves.{Leads}
use Rattle.cx_search.specs.Nexts.{AreLinked}
use Rattle.cx_search.proofs.ListLemmas.{item_at}
use Rattle.cx_search.proofs.MarkLemmas.{marked_set, none_marked, restless, unmarked_next}
use Rattle.cx_search.proofs.PathLemmas.{leads_on}
use Rattle.cx_search.proofs.SearchLemmas.{at_same}

-- ---- what is found in a list
pub record FoundIn (f : ℕ → Bool) (xs : List ℕ) (x : ℕ) : Type 0 where
  pub index : ℕ
  pub at : slice_get xs index ≡ Some x
  pub passes : f x ≡ true

found_first : (f : ℕ → Bool) (y : ℕ) (xs : List ℕ) (x : ℕ) (b : Bool) → f y ≡ b → cond b (Some y) (find f xs) ≡ Some x
    → (find f xs ≡ Some x → FoundIn f xs x) → FoundIn f (y ∷ xs) x
found_first f y xs x true e h rest = let same = same_Some y x h in record { index = 0; at = ap Some same; passes = ap f (sym same) ∙ e }
found_first f y xs x false e h rest = let it = rest h in record { index = suc it.index; at = it.at; passes = it.passes }

pub found_in : (f : ℕ → Bool) (xs : List ℕ) (x : ℕ) → find f xs ≡ Some x → FoundIn f xs x
found_in f [] x is = absurd (none-some x is)
found_in f (y ∷ xs) x is = found_first f y xs x (f y) refl is (found_in f xs x)

not_first : (f : ℕ → Bool) (y : ℕ) (xs : List ℕ) (b : Bool) → f y ≡ b → cond b (Some y) (find f xs) ≡ None → (f y ≡ false) × (find f xs ≡ None)
not_first f y xs true e h = absurd (none-some y (sym h))
not_first f y xs false e h = (e, h)

pub not_found : (f : ℕ → Bool) (xs : List ℕ) → find f xs ≡ None → (index x : ℕ) → slice_get xs index ≡ Some x → f x ≡ false
not_found f [] none index x at = absurd (none-some x at)
not_found f (y ∷ xs) none zero x at = ap f (sym (same_Some y x at)) ∙ (not_first f y xs (f y) refl none).0
not_found f (y ∷ xs) none (suc index) x at = not_found f xs (not_first f y xs (f y) refl none).1 index x at

free_is : (marks : List Bool) (most place : ℕ) → is_free marks most place ≡ true → (place < most) × (is_marked marks place ≡ false)
free_is marks most place is = by (nat_lt place most) (is_marked marks place) refl refl is
  where
    by : (b c : Bool) → nat_lt place most ≡ b → is_marked marks place ≡ c → (b && not c) ≡ true → (place < most) × (is_marked marks place ≡ false)
    by true false e f h = (ltb-true place most e, f)
    by true true e f h = absurd (true≢false (sym h))
    by false c e f h = absurd (true≢false (sym h))

free_not : (marks : List Bool) (most place : ℕ) → is_free marks most place ≡ false → place < most → is_marked marks place ≡ false → ⊥
free_not marks most place is below free = true≢false (sym (ap (λ b. b && not (is_marked marks place)) (lt-ltb place most below) ∙ ap not free) ∙ is)

module _ {State : Type 0} (Goes : State → ℕ → State → Type 0) (found : List (State × Origin)) (links : List (List ℕ)) (done : ℕ)
    (linked : AreLinked Goes found links done) (enough : length found ≤ done) where
  pub seen_none : (n : ℕ) (state : State) → IsAt found 0 state → IsComeTo Goes found (replicate n false) 0
  seen_none n state at = record { state = state; at = at; on = λ other from is there. absurd (none_marked n other is) }

  -- a state is at a place that a move leads to
  pub seen_on : (seen marks : List Bool) (at next : ℕ) (row : List ℕ) → IsComeTo Goes found seen at → slice_get links at ≡ Some row
      → find (is_free marks (length links)) row ≡ Some next → IsComeTo Goes found (slice_set seen at true) next
  unfolding Leads
  seen_on seen marks at next row come is it =
      let f = found_in (is_free marks (length links)) row next it in
      let to = (linked.nexts at come.state row is come.at).each f.index next f.at in
      record {
        state = to.next;
        at = to.at;
        on = λ other from marked there. elim (marked_set seen at other marked) [
          | inl e ↦
              let same = (at_same found other at from come.state there.origin come.at.origin e there.there come.at.there).0 in
              record { number = to.number; moves = []; leads = record { between = to.next; goes = subst (λ s. Goes s to.number to.next) (sym same) to.goes; rest = refl } }
          | inr old ↦
              let on = come.on other from old there in
              record { number = on.number; moves = on.moves ++ to.number ∷ []; leads = leads_on Goes from (on.number ∷ on.moves) come.state to.number to.next on.leads to.goes }
        ];
      }

  -- there is one
  pub some_next : (seen marks : List Bool) (at : ℕ) (row : List ℕ) → AreStable links All marks → is_marked marks at ≡ false → IsComeTo Goes found seen at
      → slice_get links at ≡ Some row → find (is_free marks (length links)) row ≡ None → ⊥
  some_next seen marks at row stable free come is none =
      let it = unmarked_next Goes found links done linked enough marks stable at come.state row free is in
      let to = (linked.nexts at come.state row is come.at).each it.index it.item it.at in
      let below : it.item < length links = omega (arith, enough, linked.many, slice_get_within found it.item (to.next, to.at.origin) to.at.there) in
      free_not marks (length links) it.item (not_found (is_free marks (length links)) row none it.index it.item it.at) below it.is

  pub loops : (seen : List Bool) (at : ℕ) → IsComeTo Goes found seen at → is_marked seen at ≡ true → IsPlaceOf (Loops Goes) found at
  loops seen at come is =
      let on = come.on at come.state is come.at in
      record { state = come.state; at = come.at; is = record { number = on.number; moves = on.moves; leads = on.leads } }

pub next_free : (marks : List Bool) (most next : ℕ) (row : List ℕ) → find (is_free marks most) row ≡ Some next → (next < most) × (is_marked marks next ≡ false)
next_free marks most next row it = free_is marks most next (found_in (is_free marks most) row next it).passes

module _ {State : Type 0} (Goes : State → ℕ → State → Type 0) (start : State) (found : List (State × Origin)) (links : List (List ℕ)) (whole : IsWhole Goes start found links) where
  pub all_can_rest : (marks : List Bool) → AreRight Goes found Any marks → ((place : ℕ) → place < length found → is_marked marks place ≡ true)
      → (moves : List ℕ) (to : State) → Leads Goes start moves to → CanRest Goes to
  all_can_rest marks right all moves to leads =
      let f = whole.all moves to leads in
      right f.place to (all f.place (slice_get_within found f.place (to, f.is.origin) f.is.there)) f.is

  pub one_restless : (marks : List Bool) → AreStable links Any marks → (place : ℕ) → place < length found → is_marked marks place ≡ false
      → IsPlaceOf (λ state. CanRest Goes state → ⊥) found place
  one_restless marks stable place within free =
      let item = item_at found place within in
      let at : IsAt found place item.0.0 = record { origin = item.0.1; there = item.1 } in
      record { state = item.0.0; at = at; is = restless Goes found links whole.done whole.linked whole.enough marks stable place item.0.0 free at }

  first_restless : (marks : List Bool) → AreRight Goes found Any marks → AreStable links Any marks → (place : ℕ) → place < length found
      → is_marked marks place ≡ false → ((other : ℕ) → other < place → is_marked marks other ≡ true)
      → IsFirstPlaceOf (λ state. CanRest Goes state → ⊥) found place
  first_restless marks right stable place within free before = record {
    is = one_restless marks stable place within free;
    first = λ other state l at never. never (right other state (before other l) at);
  }

  -- by the first place without a mark
  pub rest_of : (marks : List Bool) (most : ℕ) (r : Option ℕ) → most ≡ length found → AreRight Goes found Any marks → AreStable links Any marks
      → IfSome r (λ place. (place < most) × (is_marked marks place ≡ false)) → IfNone r ((place : ℕ) → place < most → is_marked marks place ≡ true)
      → IfSome r (λ place. (other : ℕ) → other < place → is_marked marks other ≡ true)
      → MatchOption r ((moves : List ℕ) (to : State) → Leads Goes start moves to → CanRest Goes to) (IsFirstPlaceOf (λ state. CanRest Goes state → ⊥) found)
  rest_of marks most None many right stable some none first = all_can_rest marks right (λ place l. none place (omega (arith, many, l)))
  rest_of marks most (Some place) many right stable some none first = first_restless marks right stable place (omega (arith, many, some.0)) some.1 first
