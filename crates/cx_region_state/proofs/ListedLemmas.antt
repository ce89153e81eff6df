-- The listed conditions gone through in turn.
use Rattle.std.proofs.Common.{◌≡◌, ℕ, zero, suc, ◌+◌, ◌≤◌, ◌==◌, List, [], ◌∷◌, ◌++◌, length, drop, refl, ap, sym, arith, slice_get, Option, Some, None, true, false, append-nil, append_assoc}
use Rattle.cx_base.specs.declared.conditions.Condition.{Condition}
use Rattle.cx_base.specs.declared.legal.ListedCondition.{ListedCondition}
use Rattle.cx_region_state.specs.Listed.{handled_with, conditions_with_labels, listed_with}
use Rattle.cx_region_state.specs.declared.listed.Listed.{Listed}

-- what is put before a list is the front of it
in_front : (condition : Option Condition) (label : Option ℕ) (rest : List Listed) → listed_with condition label rest ≡ listed_with condition label [] ++ rest
in_front None label rest = refl
in_front (Some condition) label rest = refl

first_dropped : (places : List ℕ) (n : ℕ) → slice_get (drop n places) 0 ≡ slice_get places n
first_dropped [] zero = refl
first_dropped [] (suc n) = refl
first_dropped (place ∷ rest) zero = refl
first_dropped (place ∷ rest) (suc n) = first_dropped rest n

one_dropped : (places : List ℕ) (n : ℕ) → drop 1 (drop n places) ≡ drop (suc n) places
one_dropped [] zero = refl
one_dropped [] (suc n) = refl
one_dropped (place ∷ rest) zero = refl
one_dropped (place ∷ rest) (suc n) = one_dropped rest n

-- one more condition, with a label
pub step_with : (done : List Listed) (later : List ListedCondition) (places : List ℕ) (n : ℕ) (entry : ListedCondition) → (entry.label == 0x80) ≡ true
    → (done ++ listed_with (handled_with entry.number) (slice_get places n) []) ++ conditions_with_labels later (drop (n + 1) places) ≡ done ++ conditions_with_labels (entry ∷ later) (drop n places)
unfolding conditions_with_labels
step_with done later places n entry l =
    let more : n + 1 ≡ suc n = omega arith in
    rw (more, l, append_assoc, first_dropped places n, one_dropped places n)
    (ap (λ rest. done ++ rest) (sym (in_front (handled_with entry.number) (slice_get places n) (conditions_with_labels later (drop (suc n) places)))))

-- one more condition, without
pub step_without : (done : List Listed) (later : List ListedCondition) (places : List ℕ) (entry : ListedCondition) → (entry.label == 0x80) ≡ false
    → (done ++ listed_with (handled_with entry.number) None []) ++ conditions_with_labels later places ≡ done ++ conditions_with_labels (entry ∷ later) places
unfolding conditions_with_labels
step_without done later places entry l =
    rw (l, append_assoc) (ap (λ rest. done ++ rest) (sym (in_front (handled_with entry.number) None (conditions_with_labels later places))))

entry_suc : (conditions : List ListedCondition) (k : ℕ) (entry : ListedCondition) → slice_get conditions k ≡ Some entry → drop k conditions ≡ entry ∷ drop (suc k) conditions
entry_suc [] k entry e = cc
entry_suc (first ∷ rest) zero entry e = let same : first ≡ entry = cc in rw (same) refl
entry_suc (first ∷ rest) (suc k) entry e = entry_suc rest k entry e

-- the conditions from one on
pub next_entry : (conditions : List ListedCondition) (places : List ℕ) (k : ℕ) (entry : ListedCondition) → slice_get conditions k ≡ Some entry
    → conditions_with_labels (entry ∷ drop (k + 1) conditions) places ≡ conditions_with_labels (drop k conditions) places
next_entry conditions places k entry e =
    let one : k + 1 ≡ suc k = omega arith in rw (one, entry_suc conditions k entry e) refl

ends : (conditions : List ListedCondition) (places : List ℕ) (k : ℕ) → length conditions ≤ k → conditions_with_labels (drop k conditions) places ≡ []
unfolding conditions_with_labels
ends [] places zero l = refl
ends [] places (suc k) l = refl
ends (first ∷ rest) places zero l = absurd (omega arith)
ends (first ∷ rest) places (suc k) l = ends rest places k (omega arith)

-- all conditions gone through
pub labelled_end : (done : List Listed) (conditions : List ListedCondition) (places : List ℕ) (k : ℕ) → length conditions ≤ k → done ++ conditions_with_labels (drop k conditions) places ≡ done
labelled_end done conditions places k l = rw (ends conditions places k l) (append-nil done)
