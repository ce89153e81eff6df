-- The places that moves lead to, one move more.
use Rattle.std.proofs.Common.{◌≡◌, ℕ, ◌+◌, ◌<◌, ◌≤◌, List, [], ◌∷◌, ◌++◌, length, inl, inr, sym, subst, refl, ◌∙◌, arith, length-append}
use Rattle.std.proofs.lemmas.Option.{slice_get_within}
use Rattle.cx_search.specs.declared.found.Origin.{Origin}
use Rattle.cx_search.specs.Found.{IsAt}
use Rattle.cx_search.specs.Moves.{GoesOnly}
use Rattle.cx_search.specs.Nexts.{AreLinked, AreNexts, IsAmong}
use Rattle.cx_search.specs.Parts.Searching.{AreFirstNexts}
use Rattle.cx_search.specs.Facts.Items.{item_appended, item_kept, item_last}
use Rattle.cx_search.proofs.ListLemmas.{item_at}
use Rattle.cx_search.proofs.SearchLemmas.{at_kept, at_same, below_next}

module _ {State : Type 0} (Goes : State → ℕ → State → Type 0) (found : List (State × Origin)) where
  among_more : (nexts more : List ℕ) (t : State) → IsAmong Goes found nexts t → IsAmong Goes found (nexts ++ more) t
  among_more nexts more t is = record { index = is.index; to = is.to; among = item_kept nexts more is.index is.to is.among; at = is.at }

  pub no_nexts : (s : State) → AreFirstNexts Goes found s 0 []
  no_nexts s = record {
    each = λ index to is. absurd (omega (arith, slice_get_within [] index to is));
    all = λ number next l goes. absurd (omega (arith, l));
  }

  -- a move that can't be made
  pub nexts_none : (s : State) (tried : ℕ) (nexts : List ℕ) → AreFirstNexts Goes found s tried nexts → ((t : State) → Goes s tried t → ⊥)
      → AreFirstNexts Goes found s (tried + 1) nexts
  nexts_none s tried nexts are never = record {
    each = are.each;
    all = λ number next l goes. elim (below_next number tried l) [
      | inl less ↦ are.all number next less goes
      | inr e ↦ absurd (never next (subst (λ n. Goes s n next) e goes))
    ];
  }

  -- a move to a place
  pub nexts_to : (s : State) (tried : ℕ) (nexts : List ℕ) (t : State) (to : ℕ) → AreFirstNexts Goes found s tried nexts → GoesOnly Goes s tried t
      → IsAt found to t → AreFirstNexts Goes found s (tried + 1) (nexts ++ to ∷ [])
  nexts_to s tried nexts t to are goes at = record {
    each = λ index place is. elim (item_appended nexts to place index is) [
      | inl old ↦ are.each index place old
      | inr e ↦ record { number = tried; next = t; at = subst (λ x. IsAt found x t) e.1 at; goes = goes.goes }
    ];
    all = λ number next l moved. elim (below_next number tried l) [
      | inl less ↦ among_more nexts (to ∷ []) next (are.all number next less moved)
      | inr e ↦ record {
        index = length nexts;
        to = to;
        among = item_last nexts to;
        at = subst (λ x. IsAt found to x) (sym (goes.only next (subst (λ n. Goes s n next) e moved))) at;
      }
    ];
  }

  -- all of them
  pub nexts_all : (s : State) (tried : ℕ) (nexts : List ℕ) → AreFirstNexts Goes found s tried nexts → ((t : State) (n : ℕ) → Goes s n t → n < tried)
      → AreNexts Goes found s nexts
  nexts_all s tried nexts are below = record { each = are.each; all = λ number next goes. are.all number next (below next number goes) goes }

  pub no_links : AreLinked Goes found [] 0
  no_links = record { many = refl; nexts = λ place state row is at. absurd (omega (arith, slice_get_within [] place row is)) }

  -- a state more, and its places
  pub linked_more : (links : List (List ℕ)) (done : ℕ) (nexts : List ℕ) → AreLinked Goes found links done
      → ((s : State) → IsAt found done s → AreNexts Goes found s nexts) → AreLinked Goes found (links ++ nexts ∷ []) (done + 1)
  linked_more links done nexts are last = record {
    many = length-append links (nexts ∷ []) ∙ omega (arith, are.many);
    nexts = λ place state row is at. elim (item_appended links nexts row place is) [
      | inl old ↦ are.nexts place state row old at
      | inr e ↦ subst (λ xs. AreNexts Goes found state xs) e.1 (last state (subst (λ x. IsAt found x state) (e.0 ∙ are.many) at))
    ];
  }

module _ {State : Type 0} (Goes : State → ℕ → State → Type 0) (old new : List (State × Origin))
    (kept : (place : ℕ) (s : State) → IsAt old place s → IsAt new place s) where
  pub nexts_kept : (s : State) (tried : ℕ) (nexts : List ℕ) → AreFirstNexts Goes old s tried nexts → AreFirstNexts Goes new s tried nexts
  nexts_kept s tried nexts are = record {
    each = λ index to is. let it = are.each index to is in record { number = it.number; next = it.next; at = kept to it.next it.at; goes = it.goes };
    all = λ number next l goes.
        let it = are.all number next l goes in
        record { index = it.index; to = it.to; among = it.among; at = kept it.to next it.at };
  }

  all_kept : (s : State) (nexts : List ℕ) → AreNexts Goes old s nexts → AreNexts Goes new s nexts
  all_kept s nexts are = record {
    each = λ index to is. let it = are.each index to is in record { number = it.number; next = it.next; at = kept to it.next it.at; goes = it.goes };
    all = λ number next goes.
        let it = are.all number next goes in
        record { index = it.index; to = it.to; among = it.among; at = kept it.to next it.at };
  }

  pub linked_kept : (links : List (List ℕ)) (done : ℕ) → AreLinked Goes old links done → done ≤ length old → AreLinked Goes new links done
  linked_kept links done are within = record {
    many = are.many;
    nexts = λ place state row is at.
        let item = item_at old place (omega (arith, within, are.many, slice_get_within links place row is)) in
        let was : IsAt old place item.0.0 = record { origin = item.0.1; there = item.1 } in
        let now = kept place item.0.0 was in
        let e = at_same new place place item.0.0 state now.origin at.origin refl now.there at.there in
        subst (λ x. AreNexts Goes new x row) e.0 (all_kept item.0.0 row (are.nexts place item.0.0 row is was));
  }

-- a move to a new state, which is put at the end
pub nexts_new : {State : Type 0} (Goes : State → ℕ → State → Type 0) (old : List (State × Origin)) (t : State) (o : Origin) (new : List (State × Origin))
    → new ≡ old ++ (t, o) ∷ [] → (at tried : ℕ) (nexts after : List ℕ) (place : ℕ) → place ≡ length old → after ≡ nexts ++ place ∷ []
    → (from : State) → IsAt old at from → ((s : State) → IsAt old at s → AreFirstNexts Goes old s tried nexts) → GoesOnly Goes from tried t
    → (state : State) → IsAt new at state → AreFirstNexts Goes new state (tried + 1) after
nexts_new {State = State} Goes old t o new is at tried nexts after place last pushed from was so_far goes state now =
    let kept : (i : ℕ) (s : State) → IsAt old i s → IsAt new i s = λ i s it. subst (λ es. IsAt es i s) (sym is) (at_kept old t o i s it) in
    let there : IsAt new place t = subst (λ es. IsAt es place t) (sym is) (subst (λ i. IsAt (old ++ (t, o) ∷ []) i t) (sym last) (record { origin = o; there = item_last old (t, o) })) in
    let from_now = kept at from was in
    let same = (at_same new at at from state from_now.origin now.origin refl from_now.there now.there).0 in
    subst (λ s. AreFirstNexts Goes new s (tried + 1) after) same
    (subst (λ xs. AreFirstNexts Goes new from (tried + 1) xs) (sym pushed)
    (nexts_to Goes new from tried nexts t place (nexts_kept Goes old new kept from tried nexts (so_far from was)) goes there))
