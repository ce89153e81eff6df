-- Bytes that stay where areas are made or freed, and where bytes are written elsewhere.
use Rattle.std.proofs.Common.{◌≡◌, ℕ, zero, suc, ◌+◌, ◌^◌, ◌<◌, ◌≤◌, Bool, true, false, Some, None, List, [], ◌∷◌, length, refl, sym, ◌∙◌, ap, subst, arith, inl, inr}
use Rattle.std.specs.Prelude.{◌⊎◌, ◌&&◌, ◌==◌, ◌≢◌}
use Rattle.std.specs.List.{AllByRecursion, filter}
use Rattle.std.proofs.lemmas.Bool.{cases_Bool, cases_eq, cases_lt, eq-eqb, ne_eqb, true≢false}
use Rattle.std.proofs.lemmas.Option.{none-some, same_Some}
use Rattle.cx_storage.specs.declared.areas.Area.{Area}
use Rattle.cx_storage.specs.declared.areas.Owner.{Owner}
use Rattle.cx_storage.specs.Address.{address_after}
use Rattle.cx_storage.specs.Place.{CanPlace, IsLeastPlace}
use Rattle.cx_storage.specs.Storage.{Held, Storage, after_write, area_at, area_from, areas_of, byte_at, covers, end_of, span, with_area, with_areas_kept, AreOrdered, IsSoundStorage}
use Rattle.cx_storage.specs.Facts.Areas.{byte_after_get, byte_before}
use Rattle.cx_storage.specs.Facts.Sound.{All-filter, covers_cases, covers_from}
use Rattle.cx_region_state.specs.Areas.{IsTaskPlace, first_of_tasks, last_of_tasks}
use Rattle.cx_region_state.specs.Facts.Areas.{all_areas_same, kept_all}
use Rattle.cx_region_laws.proofs.OthersLemmas.{Uncovered}
use Rattle.cx_region_laws.proofs.ClearLemmas.{all_missed, later_start, off_above, off_below, placed_ends}
use Rattle.cx_region_laws.proofs.StandLemmas.{write_elsewhere}

-- ---- spans
-- storages that have the same bytes at the addresses of a span have the same span
pub span_agree : (s t : Storage) (b n : ℕ) → b < 2 ^ 24 → ((k : ℕ) → k < n → byte_at s (address_after b k) ≡ byte_at t (address_after b k)) → span s b n ≡ span t b n
unfolding span
span_agree s t b zero low each = refl
span_agree s t b (suc n) low each =
    let first : address_after b 0 ≡ b = omega (arith, low) in
    let here : byte_at s b ≡ byte_at t b = rw first at (each 0 (omega arith)) in
    let rest = span_agree s t (address_after b 1) n (omega arith) (λ k less.
    let next : address_after (address_after b 1) k ≡ address_after b (suc k) = omega arith in rw next (each (suc k) (omega (arith, less)))) in
    rw (here, rest) refl

-- ---- a fresh area
uncovered_none : (s : Storage) (x : ℕ) → Uncovered s x → byte_at s x ≡ None
unfolding byte_at
uncovered_none [] x clear = refl
uncovered_none (h ∷ hs) x clear = rw (clear.0) (uncovered_none hs x clear.1)

-- none of its addresses has a byte before
pub fresh_absent : (s : Storage) (len a x : ℕ) → IsTaskPlace s len (Some a) → a ≤ x → x < a + len → byte_at s x ≡ None
unfolding IsLeastPlace CanPlace
fresh_absent s len a x least low high = uncovered_none s x (all_missed s len a x least.0.3 low high)

-- so a byte that is there is elsewhere
pub fresh_apart : (s : Storage) (len a x b : ℕ) → IsTaskPlace s len (Some a) → byte_at s x ≡ Some b → (x < a) ⊎ (a + len ≤ x)
fresh_apart s len a x b least there = elim (cases_lt x a) [
  | inl below ↦ inl below
  | inr above ↦ elim (cases_lt x (a + len)) [
    | inl inside ↦ absurd (none-some b (sym (fresh_absent s len a x least above inside) ∙ there))
    | inr beyond ↦ inr beyond
  ]
]

-- and stays
pub area_leaves : (s : Storage) (len a x b : ℕ) (owner : Owner) → IsTaskPlace s len (Some a) → byte_at s x ≡ Some b → byte_at (with_area s (Some a) len owner) x ≡ Some b
unfolding IsLeastPlace
area_leaves s len a x b owner least there =
    let off : covers (area_from a len owner) x ≡ false = elim (fresh_apart s len a x b least there) [
      | inl below ↦ off_below (area_from a len owner) x below
      | inr above ↦ off_above (area_from a len owner) x above
    ] in
    byte_after_get s first_of_tasks last_of_tasks len a owner x least.0 ∙ rw off there

-- bytes written into a fresh area leave what is elsewhere
pub inside_apart : (s t : Storage) (len a off : ℕ) (bytes : List ℕ) (x b : ℕ) → IsTaskPlace s len (Some a) → off + length bytes ≤ len → x < 2 ^ 24
    → byte_at s x ≡ Some b → byte_at (after_write t (address_after a off) bytes) x ≡ byte_at t x
inside_apart s t len a off bytes x b least fits low was =
    let ends = placed_ends s len a least in
    elim (fresh_apart s len a x b least was) [
      | inl below ↦ write_elsewhere t (address_after a off) bytes x (omega arith) (omega (arith, ends, fits, low, below))
      | inr above ↦ write_elsewhere t (address_after a off) bytes x (omega arith) (omega (arith, ends, fits, low, above))
    ]

pub inside_leaves : (s t : Storage) (len a off : ℕ) (bytes : List ℕ) (x b : ℕ) → IsTaskPlace s len (Some a) → off + length bytes ≤ len → x < 2 ^ 24
    → byte_at s x ≡ Some b → byte_at t x ≡ Some b → byte_at (after_write t (address_after a off) bytes) x ≡ Some b
inside_leaves s t len a off bytes x b least fits low was there = inside_apart s t len a off bytes x b least fits low was ∙ there

-- ---- the order of areas
pub ordered_same : (s t : Storage) → areas_of t ≡ areas_of s → AreOrdered s → AreOrdered t
unfolding areas_of
ordered_same [] [] e ok = tt
ordered_same [] (g ∷ gs) e ok = cc
ordered_same (h ∷ hs) [] e ok = cc
ordered_same (h ∷ hs) (g ∷ gs) e ok =
    let first : h.area ≡ g.area = cc in
    let rest : areas_of gs ≡ areas_of hs = cc in (
      subst (λ (a : Area). AllByRecursion (λ later. end_of a ≤ later.area.start) gs) first (all_areas_same (λ (area : Area). end_of h.area ≤ area.start) hs gs (sym rest) ok.0),
      ordered_same hs gs rest ok.1,
    )

pub order_of : (s : Storage) → IsSoundStorage s → AreOrdered s
unfolding IsSoundStorage
order_of s ok = ok.1

-- ---- areas freed
-- the bytes of an area that is still there
pub freed_stays : (s : Storage) (keeps : Area → Bool) (q : ℕ) (area : Area) (x : ℕ) → AreOrdered s → area_at (with_areas_kept keeps s) q ≡ Some area → q ≤ x → x < q + area.len
    → byte_at (with_areas_kept keeps s) x ≡ byte_at s x
unfolding byte_at area_at with_areas_kept
freed_stays [] keeps q area x ordered found low high = refl
freed_stays (h ∷ hs) keeps q area x ordered found low high = elim (cases_Bool (keeps h.area)) [
  | inl k ↦ elim (cases_Bool (covers h.area x)) [
    | inl c ↦ rw (k, c) refl
    | inr c ↦ elim (cases_eq h.area.start q) [
      | inl at ↦
          let is : h.area ≡ area = same_Some h.area area (rw (k, eq_here h q at) at found) in
          let long : h.area.len ≡ area.len = ap (λ (a : Area). a.len) is in
          let never : covers h.area x ≡ true = covers_from h.area x (omega (arith, at, low)) (omega (arith, at, long, high)) in
          absurd (not_both (covers h.area x) never c)
      | inr apart ↦ rw (k, c) (freed_stays hs keeps q area x ordered.1 (rw (k, ne_here h q apart) at found) low high)
    ]
  ]
  | inr k ↦
      let rest = rw k at found in
      let beyond = later_start (filter (λ h. keeps h.area) hs) (end_of h.area) q area (All-filter (λ later. end_of h.area ≤ later.area.start) (λ h. keeps h.area) hs ordered.0) rest in
      let off = off_above h.area x (omega (arith, beyond, low)) in
      rw (k, off) (freed_stays hs keeps q area x ordered.1 rest low high)
]
  where
    eq_here : (h : Held) (q : ℕ) → h.area.start ≡ q → (h.area.start == q) ≡ true
    eq_here h q e = eq-eqb h.area.start q e

    ne_here : (h : Held) (q : ℕ) → h.area.start ≢ q → (h.area.start == q) ≡ false
    ne_here h q e = ne_eqb h.area.start q e

    not_both : (b : Bool) → b ≡ true → b ≡ false → ⊥
    not_both b is_so is_not = true≢false (sym is_so ∙ is_not)

-- a byte that is still there is as it was
pub freed_was : (s : Storage) (keeps : Area → Bool) (x b : ℕ) → AreOrdered s → byte_at (with_areas_kept keeps s) x ≡ Some b → byte_at s x ≡ Some b
unfolding byte_at with_areas_kept
freed_was [] keeps x b ordered e = e
freed_was (h ∷ hs) keeps x b ordered e = elim (cases_Bool (keeps h.area)) [
  | inl k ↦ elim (cases_Bool (covers h.area x)) [
    | inl c ↦ rw c (rw (k, c) at e)
    | inr c ↦ rw c (freed_was hs keeps x b ordered.1 (rw (k, c) at e))
  ]
  | inr k ↦
      let rest = rw k at e in
      elim (covers_cases h.area x) [
        | inl c ↦ absurd (none-some b (sym (byte_before (filter (λ h. keeps h.area) hs) (end_of h.area) x (All-filter (λ later. end_of h.area ≤ later.area.start) (λ h. keeps h.area) hs ordered.0) c.2) ∙ rest))
        | inr c ↦ rw c.0 (freed_was hs keeps x b ordered.1 rest)
      ]
]

-- some areas are freed, or none
pub record IsFreed (s t : Storage) : Type 0 where
  pub keeps : Area → Bool
  pub is : t ≡ with_areas_kept keeps s

all_pass : (s : Storage) → AllByRecursion (λ (h : Held). true ≡ true) s
all_pass [] = tt
all_pass (h ∷ hs) = (refl, all_pass hs)

pub none_freed : (s t : Storage) → t ≡ s → IsFreed s t
none_freed s t e = record { keeps = λ (_ : Area). true; is = e ∙ sym (kept_all (λ (_ : Area). true) s (all_pass s)) }

kept_both : (one two : Area → Bool) (s : Storage) → with_areas_kept two (with_areas_kept one s) ≡ with_areas_kept (λ area. one area && two area) s
unfolding with_areas_kept
kept_both one two [] = refl
kept_both one two (h ∷ hs) =
    let rest = kept_both one two hs in
    elim (cases_Bool (one h.area)) [
      | inl a ↦ elim (cases_Bool (two h.area)) [
        | inl b ↦ rw (a, b) (ap (λ (l : Storage). h ∷ l) rest)
        | inr b ↦ rw (a, b) rest
      ]
      | inr a ↦ rw a rest
    ]

pub freed_on : (s t u : Storage) → IsFreed s t → IsFreed t u → IsFreed s u
freed_on s t u one two =
    record {
      keeps = λ area. one.keeps area && two.keeps area;
      is = two.is ∙ ap (with_areas_kept two.keeps) one.is ∙ kept_both one.keeps two.keeps s;
    }

-- a span of an area that is still there
pub freed_span : (s t : Storage) (q : ℕ) (area : Area) (b n : ℕ) → AreOrdered s → IsFreed s t → area_at t q ≡ Some area → q ≤ b → b + n ≤ q + area.len → q + area.len ≤ 2 ^ 24 → 0 < n
    → span t b n ≡ span s b n
freed_span s t q area b n ordered freed found low fits ends some =
    span_agree t s b n (omega (arith, fits, ends, some)) (λ k less.
    let at : address_after b k ≡ b + k = omega (arith, fits, ends, less) in
    let kept = freed_stays s freed.keeps q area (b + k) ordered (sym (ap (λ (l : Storage). area_at l q) freed.is) ∙ found) (omega (arith, low)) (omega (arith, fits, less)) in
    rw at (ap (λ (l : Storage). byte_at l (b + k)) freed.is ∙ kept))
