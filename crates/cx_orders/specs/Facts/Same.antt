-- When two states of orders are the same: a test that is true exactly where they are equal, and the laws that such a test has
-- (own).
use Rattle.std.proofs.Common.{◌≡◌, Bool, true, false, refl, sym, ap, ◌∙◌, true≢false, ◌&&◌, arith}
use Rattle.std.specs.Prelude.{◌==◌, ◌↔◌, IsTrue}
use Rattle.std.specs.Cmp.{IsEquivalence, IsPartialEquivalence, partial_equiv_from_equiv}
use Rattle.std.specs.Coded.{Coded, codes}
use Rattle.std.specs.Hash as fed
use Rattle.std.proofs.lemmas.Bool.{eqb-true}
use base.Stored.{Gv, gnil, gnum, gcons}
use Rattle.cx_region.specs.State.{RegionState}
use Rattle.cx_region_snapshot.specs.Hash.{region_hash}
use Rattle.cx_orders.specs.declared.states.OrdersState.{OrdersState}

-- ---- trees of numbers
same_tree : Gv → Gv → Bool
same_tree gnil gnil = true
same_tree (gnum m) (gnum n) = m == n
same_tree (gcons a b) (gcons c d) = same_tree a c && same_tree b d
same_tree _ _ = false

same_tree_self : (a : Gv) → same_tree a a ≡ true
unfolding same_tree
same_tree_self gnil = refl
same_tree_self (gnum n) = grind arith
same_tree_self (gcons a b) = rw (same_tree_self a, same_tree_self b) refl

both : (b c : Bool) → (b && c) ≡ true → (b ≡ true) × (c ≡ true)
both true true is = (refl, refl)
both true false is = absurd (true≢false (sym is))
both false c is = absurd (true≢false (sym is))

same_tree_is : (a b : Gv) → same_tree a b ≡ true → a ≡ b
unfolding same_tree
same_tree_is gnil gnil is = refl
same_tree_is gnil (gnum n) is = absurd (true≢false (sym is))
same_tree_is gnil (gcons c d) is = absurd (true≢false (sym is))
same_tree_is (gnum m) gnil is = absurd (true≢false (sym is))
same_tree_is (gnum m) (gnum n) is = ap gnum (eqb-true m n is)
same_tree_is (gnum m) (gcons c d) is = absurd (true≢false (sym is))
same_tree_is (gcons a b) gnil is = absurd (true≢false (sym is))
same_tree_is (gcons a b) (gnum n) is = absurd (true≢false (sym is))
same_tree_is (gcons a b) (gcons c d) is =
    let h = both (same_tree a c) (same_tree b d) is in
    ap (λ x. gcons x b) (same_tree_is a c h.0) ∙ ap (λ x. gcons c x) (same_tree_is b d h.1)

-- ---- states
pub region_code : Coded RegionState
region_code = hlevel codes

pub state_code : Coded OrdersState
state_code = hlevel (codes, region_code)

pub same_state : OrdersState → OrdersState → Bool
same_state one other = same_tree (state_code.code one) (state_code.code other)

pub same_is : (one other : OrdersState) → same_state one other ≡ true → one ≡ other
unfolding same_state
same_is one other is = state_code.inj one other (same_tree_is (state_code.code one) (state_code.code other) is)

pub is_same : (one other : OrdersState) → one ≡ other → same_state one other ≡ true
unfolding same_state
is_same one other is = ap (λ x. same_tree (state_code.code one) (state_code.code x)) (sym is) ∙ same_tree_self (state_code.code one)

alike : (b c : Bool) → (b ≡ true → c ≡ true) → (c ≡ true → b ≡ true) → b ≡ c
alike true c to from = sym (to refl)
alike false true to from = from refl
alike false false to from = refl

-- a test that decides it is this one
pub same_by : (r : Bool) (one other : OrdersState) → (r ≡ true → one ≡ other) → (one ≡ other → r ≡ true) → r ≡ same_state one other
same_by r one other to from = alike r (same_state one other) (λ h. is_same one other (to h)) (λ h. from (same_is one other h))

pub same_as : (r : Bool) (one other : OrdersState) → (IsTrue r ↔ (one ≡ other)) → r ≡ same_state one other
same_as r one other is = same_by r one other is.0 is.1

pub same_equivalence : IsEquivalence same_state
same_equivalence = record {
  refl = λ x. is_same x x refl;
  symm = λ x y. same_by (same_state x y) y x (λ h. sym (same_is x y h)) (λ h. is_same x y (sym h));
  congr = λ x y z h. ap (λ w. same_state w z) (same_is x y h);
}

pub same_laws : IsPartialEquivalence same_state
same_laws = partial_equiv_from_equiv same_equivalence

pub hash_alike : (x y : OrdersState) → IsTrue (same_state x y) → fed.u64 (region_hash x.region) ≡ fed.u64 (region_hash y.region)
hash_alike x y is = ap (λ (s : OrdersState). fed.u64 (region_hash s.region)) (same_is x y is)
