-- When two states are the same: a test that is true exactly where they are equal, and the laws that such a test has (own).
use Rattle.std.proofs.Common.{◌≡◌, Bool, true, [], ap}
use Rattle.std.specs.Prelude.{◌↔◌, IsTrue}
use Rattle.std.specs.Cmp.{IsEquivalence, IsPartialEquivalence, partial_equiv_from_equiv}
use Rattle.std.specs.Hash as fed
use Rattle.cx_region_snapshot.specs.Hash.{region_hash}
use Rattle.cx_orders.specs.Facts.Same as orders
use Rattle.cx_orders.specs.declared.states.OrdersState.{OrdersState}
use Rattle.cx_choices.specs.declared.states.ChoicesState.{ChoicesState}

-- as a state of orders, of which no key has come
as_orders : ChoicesState → OrdersState
as_orders state = record { region = state.region; come = []; incidents = [] }

of_orders : OrdersState → ChoicesState
of_orders state = record { region = state.region }

pub same_choices : ChoicesState → ChoicesState → Bool
same_choices one other = orders.same_state (as_orders one) (as_orders other)

pub same_is : (one other : ChoicesState) → same_choices one other ≡ true → one ≡ other
unfolding same_choices as_orders of_orders
same_is one other is = ap of_orders (orders.same_is (as_orders one) (as_orders other) is)

-- a test that decides it is this one
pub same_as : (r : Bool) (one other : ChoicesState) → (IsTrue r ↔ (one ≡ other)) → r ≡ same_choices one other
unfolding same_choices as_orders of_orders
same_as r one other is =
    orders.same_by r (as_orders one) (as_orders other) (λ h. ap as_orders (is.0 h)) (λ h. is.1 (ap of_orders h))

pub same_equivalence : IsEquivalence same_choices
unfolding same_choices
same_equivalence = record {
  refl = λ x. orders.same_equivalence.refl (as_orders x);
  symm = λ x y. orders.same_equivalence.symm (as_orders x) (as_orders y);
  congr = λ x y z h. orders.same_equivalence.congr (as_orders x) (as_orders y) (as_orders z) h;
}

pub same_laws : IsPartialEquivalence same_choices
same_laws = partial_equiv_from_equiv same_equivalence

pub hash_alike : (x y : ChoicesState) → IsTrue (same_choices x y) → fed.u64 (region_hash x.region) ≡ fed.u64 (region_hash y.region)
hash_alike x y is = ap (λ (s : ChoicesState). fed.u64 (region_hash s.region)) (same_is x y is)
