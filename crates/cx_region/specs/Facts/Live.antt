-- Which slots have a task.
use Rattle.std.proofs.Common.{◌≡◌, ℕ, suc, ◌<◌, ◌≤◌, Bool, true, false, Some, List, [], ◌∷◌, refl, ap, subst, arith, inl, inr, is_some}
use Rattle.std.specs.Prelude.{◌==◌, ◌||◌, if◌then◌else◌}
use Rattle.std.specs.List.{AllByRecursion}
use Rattle.std.specs.Map.{lookup, set_value}
use Rattle.std.proofs.lemmas.Bool.{cases_Bool, cases_eq, eq-eqb, ne_eqb}
use Rattle.std.proofs.lemmas.Option.{none-some, same_Some}
use Rattle.cx_storage.specs.Storage.{Storage, is_of_other_slot}
use Rattle.cx_storage.specs.declared.areas.Area.{Area}
use Rattle.cx_region.specs.State.{TerminalState}
use Rattle.cx_region.specs.Parts.Placing.{IsSlotFree}
use Rattle.cx_region.specs.Sound.{AreNumbered, IsOwned, is_live}
use Rattle.cx_region.specs.Facts.SoundDefining.{all_weaker}

abbrev pub Table : Type 0
Table = List (List ℕ × TerminalState)

-- a slot below the first has no task
not_live_below : (from : ℕ) (ts : Table) (s : ℕ) → AreNumbered from ts → s < from → is_live ts s ≡ false
not_live_below from [] s all below = refl
not_live_below from (e ∷ ts) s all below =
    rw (ne_eqb e.1.entry.slot s (omega (arith, all.0))) (not_live_below (suc from) ts s all.1 (omega arith))

-- a terminal that is found has a slot from the first on
pub slot_from : (from : ℕ) (ts : Table) (test : List ℕ → Bool) (t : TerminalState) → AreNumbered from ts → lookup test ts ≡ Some t → from ≤ t.entry.slot
slot_from from [] test t all e = absurd (none-some t e)
slot_from from (x ∷ ts) test t all e = elim (cases_Bool (test x.0)) [
  | inl on ↦ let is : x.1 ≡ t = same_Some x.1 t (rw on at e) in subst (λ (u : TerminalState). from ≤ u.entry.slot) is (omega (arith, all.0))
  | inr off ↦ let rest = slot_from (suc from) ts test t all.1 (rw off at e) in omega arith
]

-- with a new terminal at the same place, its slot has a task exactly where that terminal has one, and all others as
-- before
pub live-set_value : (from : ℕ) (ts : Table) (test : List ℕ → Bool) (t u : TerminalState) (s : ℕ) → AreNumbered from ts → lookup test ts ≡ Some t → u.entry.slot ≡ t.entry.slot
    → is_live (set_value test ts u) s ≡ (if t.entry.slot == s then is_some u.task else is_live ts s)
live-set_value from [] test t u s all e same = absurd (none-some t e)
live-set_value from (x ∷ ts) test t u s all e same = elim (cases_Bool (test x.0)) [
  | inl on ↦
      let is : x.1.entry.slot ≡ t.entry.slot = ap (λ (v : TerminalState). v.entry.slot) (same_Some x.1 t (rw on at e)) in
      elim (cases_eq t.entry.slot s) [
        | inl here ↦
            let below : is_live ts s ≡ false = not_live_below (suc from) ts s all.1 (omega (arith, all.0)) in
            rw (on, eq-eqb u.entry.slot s (omega arith), eq-eqb t.entry.slot s here, below) (or_none (is_some u.task))
        | inr apart ↦
            rw (on, ne_eqb u.entry.slot s (omega arith), ne_eqb t.entry.slot s apart, ne_eqb x.1.entry.slot s (omega arith)) refl
      ]
  | inr off ↦
      let there : lookup test ts ≡ Some t = rw off at e in
      let rest = live-set_value (suc from) ts test t u s all.1 there same in
      let above = slot_from (suc from) ts test t all.1 there in
      elim (cases_eq t.entry.slot s) [
        | inl here ↦
            let tail : is_live (set_value test ts u) s ≡ is_some u.task = rw (eq-eqb t.entry.slot s here) at rest in
            rw (off, eq-eqb t.entry.slot s here, ne_eqb x.1.entry.slot s (omega (arith, all.0))) tail
        | inr apart ↦
            let tail : is_live (set_value test ts u) s ≡ is_live ts s = rw (ne_eqb t.entry.slot s apart) at rest in
            rw (off, ne_eqb t.entry.slot s apart, tail) refl
      ]
]
  where
    or_none : (b : Bool) → b || false ≡ b
    or_none true = refl
    or_none false = refl

-- the slot of a terminal that is found has a task exactly where the terminal has one
pub live_at : (from : ℕ) (ts : Table) (test : List ℕ → Bool) (t : TerminalState) → AreNumbered from ts → lookup test ts ≡ Some t → is_live ts t.entry.slot ≡ is_some t.task
live_at from [] test t all e = absurd (none-some t e)
live_at from (x ∷ ts) test t all e = elim (cases_Bool (test x.0)) [
  | inl on ↦
      let is : x.1 ≡ t = same_Some x.1 t (rw on at e) in
      let below : is_live ts t.entry.slot ≡ false = not_live_below (suc from) ts t.entry.slot all.1 (let s = ap (λ (v : TerminalState). v.entry.slot) is in omega (arith, all.0)) in
      rw (is, eq-eqb t.entry.slot t.entry.slot refl, below) (or_none (is_some t.task))
  | inr off ↦
      let there : lookup test ts ≡ Some t = rw off at e in
      let above = slot_from (suc from) ts test t all.1 there in
      rw (ne_eqb x.1.entry.slot t.entry.slot (omega (arith, all.0))) (live_at (suc from) ts test t all.1 there)
]
  where
    or_none : (b : Bool) → b || false ≡ b
    or_none true = refl
    or_none false = refl

pub numbered-set_value : (from : ℕ) (ts : Table) (test : List ℕ → Bool) (t u : TerminalState) → AreNumbered from ts → lookup test ts ≡ Some t → u.entry.slot ≡ t.entry.slot → AreNumbered from (set_value test ts u)
numbered-set_value from [] test t u all e same = tt
numbered-set_value from (x ∷ ts) test t u all e same = elim (cases_Bool (test x.0)) [
  | inl on ↦
      let is : x.1.entry.slot ≡ t.entry.slot = ap (λ (v : TerminalState). v.entry.slot) (same_Some x.1 t (rw on at e)) in
      rw on (omega (arith, all.0), all.1)
  | inr off ↦ rw off (all.0, numbered-set_value (suc from) ts test t u all.1 (rw off at e) same)
]

-- a slot without a task has no area
not_owned : (ts : Table) (slot : ℕ) (area : Area) → 1 ≤ slot → is_live ts slot ≡ false → IsOwned ts area → is_of_other_slot slot area ≡ true
not_owned ts slot area some idle owned = elim (cases_eq area.owner.slot slot) [
  | inl e ↦
      let nobody : (area.owner.slot == 0) || is_live ts area.owner.slot ≡ false = rw (e, ne_eqb slot 0 (omega arith)) idle in
      cc
  | inr ne ↦ rw (ne_eqb area.owner.slot slot ne) refl
]

pub slot_free : (ts : Table) (s : Storage) (slot : ℕ) → 1 ≤ slot → is_live ts slot ≡ false → AllByRecursion (λ held. IsOwned ts held.area) s → IsSlotFree s slot
slot_free ts s slot some idle owned = all_weaker (λ held. IsOwned ts held.area) (λ held. is_of_other_slot slot held.area ≡ true) s (λ held. not_owned ts slot held.area some idle) owned
