-- What areas put in and freed leave, and what decides storage.
use Rattle.cx_storage.specs.Facts.Spans.{span_inside}
use Rattle.std.proofs.Common.{refl, sym, ap, ◌∙◌, inl, inr, arith, subst}
use Rattle.std.proofs.lemmas.Bool.{cases_Bool, cases_eq, eq-eqb, ne_eqb, or_cases, leb-true, and_parts, and_from, le-leb, or_left, or_right}
use Rattle.std.proofs.lemmas.List.{same_lists}
use Rattle.std.proofs.lemmas.Option.{slice_get-get_or, same_Some}
use Rattle.std.specs.List.{AllByRecursion, filter, list_any}
use Rattle.std.specs.Prelude.{◌≡◌, ℕ, zero, suc, ◌+◌, ◌-◌, ◌<◌, ◌≤◌, Bool, true, false, cond, List, ◌∷◌, length, replicate, slice_get, Some, None, is_some, nat_lt, ◌==◌, [], ◌&&◌, nat_le, ◌%◌, ◌^◌}
use Rattle.cx_storage.specs.Facts.Sound.{covers_cases, covers_from, IsSoundStorage-head, IsSoundStorage-tail, IsSoundStorage-apart, All-filter}
use Rattle.cx_storage.specs.Storage.{area_from, in_one_area, IsTogether, span}
use Rattle.cx_storage.specs.Laws.Areas.{kept_only, IsPresentArea}
use Rattle.cx_storage.specs.Place.{Misses, CanPlace}
use Rattle.cx_storage.specs.Storage.{Held, Storage, end_of, covers, byte_at, area_at, areas_of, zeros, put_held, with_area, with_areas_kept, IsWhole, IsSoundStorage}
use Rattle.cx_storage.specs.declared.areas.Area.{Area}
use Rattle.cx_storage.specs.declared.areas.Owner.{Owner}

-- before an area there is no byte of those after it
pub byte_before : (s : Storage) (e x : ℕ) → AllByRecursion (λ later. e ≤ later.area.start) s → x < e → byte_at s x ≡ None
unfolding byte_at
byte_before [] e x apart below = refl
byte_before (h ∷ hs) e x apart below = elim (covers_cases h.area x) [
  | inl c ↦ absurd (omega (arith, apart.0, c.1))
  | inr c ↦ rw c.0 (byte_before hs e x apart.1 below)
]

area_before : (s : Storage) (e x : ℕ) → AllByRecursion (λ later. e ≤ later.area.start) s → x < e → area_at s x ≡ None
unfolding area_at
area_before [] e x apart below = refl
area_before (h ∷ hs) e x apart below = rw (ne_eqb h.area.start x (λ e. absurd (omega (arith, apart.0)))) (area_before hs e x apart.1 below)

-- a byte is present exactly where an area has its address
pub present_in_areas : (s : Storage) (x : ℕ) → IsSoundStorage s → is_some (byte_at s x) ≡ list_any (λ area. covers area x) (areas_of s)
unfolding byte_at areas_of
present_in_areas [] x ok = refl
present_in_areas (h ∷ hs) x ok = elim (covers_cases h.area x) [
  | inl c ↦
      let whole = IsSoundStorage-head h hs ok in
      rw (c.0, slice_get-get_or h.bytes (x - h.area.start) 0 (omega (arith, whole.full, c.1, c.2))) refl
  | inr c ↦ rw c.0 (present_in_areas hs x (IsSoundStorage-tail h hs ok))
]

-- an area put in: its own bytes, and all others as before
byte_after_put : (h : Held) (s : Storage) (x : ℕ) → AllByRecursion (Misses h.area.len h.area.start) s
    → byte_at (put_held h s) x ≡ cond (covers h.area x) (slice_get h.bytes (x - h.area.start)) (byte_at s x)
unfolding byte_at put_held
byte_after_put h [] x misses = refl
byte_after_put h (g ∷ gs) x misses = elim (cases_Bool (nat_lt h.area.start g.area.start)) [
  | inl e ↦ rw e refl
  | inr e ↦
      let rest = byte_after_put h gs x misses.1 in
      rw (e, rest) (elim (covers_cases g.area x) [
        | inl c ↦
            let out : covers h.area x ≡ false = elim (covers_cases h.area x) [
              | inl d ↦ absurd (elim misses.0 [ inl p ↦ omega (arith, p, c.2, d.1) | inr p ↦ omega (arith, p, c.1, d.2) ])
              | inr d ↦ d.0
            ] in
            rw (c.0, out) refl
        | inr c ↦ rw c.0 refl
      ])
]

area_after_put : (h : Held) (s : Storage) (x : ℕ) → 0 < h.area.len → AllByRecursion IsWhole s → AllByRecursion (Misses h.area.len h.area.start) s
    → area_at (put_held h s) x ≡ cond (h.area.start == x) (Some h.area) (area_at s x)
unfolding area_at put_held
area_after_put h [] x some whole misses = refl
area_after_put h (g ∷ gs) x some whole misses = elim (cases_Bool (nat_lt h.area.start g.area.start)) [
  | inl e ↦ rw e refl
  | inr e ↦
      let rest = area_after_put h gs x some whole.1 misses.1 in
      rw (e, rest) (elim (cases_eq g.area.start x) [
        | inl c ↦
            let head = whole.0.nonempty in
            let out : h.area.start == x ≡ false = ne_eqb h.area.start x (λ d. absurd (elim misses.0 [ inl p ↦ omega (arith, p) | inr p ↦ omega (arith, p) ])) in
            rw (eq-eqb g.area.start x c, out) refl
        | inr c ↦ rw (ne_eqb g.area.start x c) refl
      ])
]

slice_get-zeros : (n k : ℕ) → k < n → slice_get {X = ℕ} (replicate n 0) k ≡ Some 0
slice_get-zeros zero k h = absurd (omega arith)
slice_get-zeros (suc n) zero h = refl
slice_get-zeros (suc n) (suc k) h = slice_get-zeros n k (omega arith)

pub byte_after_get : (s : Storage) (first last len a : ℕ) (owner : Owner) (x : ℕ) → CanPlace s first last len a
    → byte_at (with_area s (Some a) len owner) x ≡ cond (covers (area_from a len owner) x) (Some 0) (byte_at s x)
unfolding with_area CanPlace
byte_after_get s first last len a owner x can =
    byte_after_put (zeros a len owner) s x can.3 ∙ elim (covers_cases (area_from a len owner) x) [
      | inl c ↦ rw c.0 (slice_get-zeros len (x - a) (omega (arith, c.1, c.2)))
      | inr c ↦ rw c.0 refl
    ]

pub area_after_get : (s : Storage) (first last len a : ℕ) (owner : Owner) (x : ℕ) → IsSoundStorage s → 0 < len → CanPlace s first last len a
    → area_at (with_area s (Some a) len owner) x ≡ cond (a == x) (Some (area_from a len owner)) (area_at s x)
unfolding with_area CanPlace IsSoundStorage
area_after_get s first last len a owner x ok some can = area_after_put (zeros a len owner) s x some ok.0 can.3

pub area_after_free : (s : Storage) (keeps : Area → Bool) (x : ℕ) → IsSoundStorage s → area_at (with_areas_kept keeps s) x ≡ kept_only keeps (area_at s x)
unfolding area_at with_areas_kept
area_after_free [] keeps x ok = refl
area_after_free (h ∷ hs) keeps x ok = elim (cases_eq h.area.start x) [
  | inl c ↦
      let here = eq-eqb h.area.start x c in
      elim (cases_Bool (keeps h.area)) [
        | inl k ↦ rw (k, here, k) refl
        | inr k ↦
            let apart = All-filter (λ later. end_of h.area ≤ later.area.start) (λ g. keeps g.area) hs (IsSoundStorage-apart h hs ok) in
            let gone = area_before (filter (λ g. keeps g.area) hs) (end_of h.area) x apart (omega (arith, (IsSoundStorage-head h hs ok).nonempty)) in
            rw (k, here, k) gone
      ]
  | inr c ↦
      let other = ne_eqb h.area.start x c in
      let rest = area_after_free hs keeps x (IsSoundStorage-tail h hs ok) in
      elim (cases_Bool (keeps h.area)) [
        | inl k ↦ rw (k, other) rest
        | inr k ↦ rw (k, other) rest
      ]
]

-- what depends on the areas alone
pub area_of_areas : (s t : Storage) (x : ℕ) → areas_of s ≡ areas_of t → area_at s x ≡ area_at t x
unfolding area_at areas_of
area_of_areas [] [] x e = refl
area_of_areas [] (g ∷ gs) x e = cc
area_of_areas (h ∷ hs) [] x e = cc
area_of_areas (h ∷ hs) (g ∷ gs) x e =
    let first : h.area ≡ g.area = cc in
    let others : areas_of hs ≡ areas_of gs = cc in
    rw (first, area_of_areas hs gs x others) refl

-- two sound storages with equal areas and bytes are one
held_same : (h g : Held) → h.area ≡ g.area → h.bytes ≡ g.bytes → h ≡ g
held_same h g e f = ap (λ area. record { area = area; bytes = h.bytes }) e ∙ ap (λ bytes. record { area = g.area; bytes = bytes }) f

bytes_same : (xs ys : List ℕ) → length xs ≡ length ys → ((k : ℕ) → k < length xs → slice_get xs k ≡ slice_get ys k) → xs ≡ ys
bytes_same xs ys n same = same_lists xs ys n (λ k d h.
    same_Some _ _ (sym (slice_get-get_or xs k d h) ∙ same k h ∙ slice_get-get_or ys k d (omega arith)))

pub same_storage : (s t : Storage) → IsSoundStorage s → IsSoundStorage t → areas_of s ≡ areas_of t → ((x : ℕ) → byte_at s x ≡ byte_at t x) → s ≡ t
unfolding areas_of byte_at
same_storage [] [] ok also areas bytes = refl
same_storage [] (g ∷ gs) ok also areas bytes = cc
same_storage (h ∷ hs) [] ok also areas bytes = cc
same_storage (h ∷ hs) (g ∷ gs) ok also areas bytes =
    let first : h.area ≡ g.area = cc in
    let others : areas_of hs ≡ areas_of gs = cc in
    let one = IsSoundStorage-head h hs ok in
    let two = IsSoundStorage-head g gs also in
    let lens : length h.bytes ≡ length g.bytes = one.full ∙ ap (λ area. area.len) first ∙ sym two.full in
    let contents : h.bytes ≡ g.bytes = bytes_same h.bytes g.bytes lens (λ k l.
    let inside = covers_from h.area (h.area.start + k) (omega arith) (omega (arith, one.full)) in
    let inside' = subst (λ (area : Area). covers area (h.area.start + k) ≡ true) first inside in
    let at : h.area.start + k - h.area.start ≡ k = omega arith in
    let at' = subst (λ (area : Area). h.area.start + k - area.start ≡ k) first at in
    let here = rw (inside, inside', at, at') at (bytes (h.area.start + k)) in
    here) in
    let rest : hs ≡ gs = same_storage hs gs (IsSoundStorage-tail h hs ok) (IsSoundStorage-tail g gs also) others (λ x.
    elim (covers_cases h.area x) [
      | inl c ↦
          let low : x < end_of g.area = rw first at c.2 in
          byte_before hs (end_of h.area) x (IsSoundStorage-apart h hs ok) c.2 ∙ sym (byte_before gs (end_of g.area) x (IsSoundStorage-apart g gs also) low)
      | inr c ↦
          let out : covers g.area x ≡ false = rw first at c.0 in
          rw (c.0, out) at (bytes x)
    ]) in
    ap (λ k. k ∷ hs) (held_same h g first contents) ∙ ap (λ ks. g ∷ ks) rest

-- a span inside one area ends below 2^24 and is there
one_area_ends : (s : Storage) (a n : ℕ) → IsSoundStorage s → in_one_area s a n ≡ true → a + n ≤ 2 ^ 24
unfolding in_one_area
one_area_ends [] a n ok one = cc
one_area_ends (h ∷ hs) a n ok one = elim (or_cases (nat_le h.area.start a && nat_le (a + n) (end_of h.area)) (in_one_area hs a n) one) [
  | inl here ↦
      let fits : a + n ≤ end_of h.area = leb-true _ _ (and_parts (nat_le h.area.start a) _ here).1 in
      omega (arith, (IsSoundStorage-head h hs ok).below)
  | inr after ↦ one_area_ends hs a n (IsSoundStorage-tail h hs ok) after
]

one_area_covers : (s : Storage) (a n x : ℕ) → in_one_area s a n ≡ true → a ≤ x → x < a + n → list_any (λ area. covers area x) (areas_of s) ≡ true
unfolding in_one_area areas_of
one_area_covers [] a n x one low high = cc
one_area_covers (h ∷ hs) a n x one low high = elim (or_cases (nat_le h.area.start a && nat_le (a + n) (end_of h.area)) (in_one_area hs a n) one) [
  | inl here ↦
      let both = and_parts (nat_le h.area.start a) (nat_le (a + n) (end_of h.area)) here in
      let from : h.area.start ≤ a = leb-true _ _ both.0 in
      let to : a + n ≤ end_of h.area = leb-true _ _ both.1 in
      or_left (covers h.area x) (list_any (λ area. covers area x) (areas_of hs)) (covers_from h.area x (omega arith) (omega arith))
  | inr after ↦ or_right (covers h.area x) (list_any (λ area. covers area x) (areas_of hs)) (one_area_covers hs a n x after low high)
]

pub one_area_span : (s : Storage) (a n : ℕ) → IsSoundStorage s → in_one_area s a n ≡ true → is_some (span s a n) ≡ true
one_area_span s a n ok one =
    span_inside s a n (one_area_ends s a n ok one) (λ x low high. present_in_areas s x ok ∙ one_area_covers s a n x one low high)

pub together_present : (s : Storage) (a n : ℕ) → IsSoundStorage s → IsTogether s a n → (0 < n) × (a + n ≤ 2 ^ 24) × (is_some (span s a n) ≡ true)
unfolding IsTogether
together_present s a n ok together = (together.0, one_area_ends s a n ok together.1, one_area_span s a n ok together.1)

-- a span inside an area that starts at an address is inside one area
pub area_in_one : (s : Storage) (start : ℕ) (area : Area) (a n : ℕ) → area_at s start ≡ Some area → start ≤ a → a + n ≤ end_of area → in_one_area s a n ≡ true
unfolding area_at in_one_area
area_in_one [] start area a n e low high = cc
area_in_one (h ∷ hs) start area a n e low high = elim (cases_eq h.area.start start) [
  | inl c ↦
      let found = rw (eq-eqb h.area.start start c) at e in
      let same : h.area ≡ area = cc in
      let fits : a + n ≤ end_of h.area = rw same high in
      or_left (nat_le h.area.start a && nat_le (a + n) (end_of h.area)) (in_one_area hs a n)
      (and_from _ _ (le-leb h.area.start a (omega arith)) (le-leb (a + n) (end_of h.area) fits))
  | inr c ↦
      let after = rw (ne_eqb h.area.start start c) at e in
      or_right (nat_le h.area.start a && nat_le (a + n) (end_of h.area)) (in_one_area hs a n) (area_in_one hs start area a n after low high)
]

pub area_is_together : (s : Storage) (start : ℕ) (area : Area) (a n : ℕ)
    → area_at s start ≡ Some area → start ≤ a → a + n ≤ end_of area → 0 < n → a % 4096 + n ≤ 4096 → IsTogether s a n
unfolding IsTogether
area_is_together s start area a n e low high some block = (some, area_in_one s start area a n e low high, block)

-- an area that starts at an address is whole, and each span inside it is there
pub area_bounds : (s : Storage) (start : ℕ) (area : Area) → IsSoundStorage s → area_at s start ≡ Some area → (area.start ≡ start) × (0 < area.len) × (end_of area ≤ 2 ^ 24)
unfolding area_at
area_bounds [] start area ok e = cc
area_bounds (h ∷ hs) start area ok e = elim (cases_eq h.area.start start) [
  | inl c ↦
      let found = rw (eq-eqb h.area.start start c) at e in
      let same : h.area ≡ area = cc in
      let whole = IsSoundStorage-head h hs ok in
      rw (← same) (c, whole.nonempty, whole.below)
  | inr c ↦ area_bounds hs start area (IsSoundStorage-tail h hs ok) (rw (ne_eqb h.area.start start c) at e)
]

pub area_span : (s : Storage) (start : ℕ) (area : Area) (a n : ℕ) → IsSoundStorage s → area_at s start ≡ Some area → start ≤ a → a + n ≤ end_of area → is_some (span s a n) ≡ true
area_span s start area a n ok e low high = one_area_span s a n ok (area_in_one s start area a n e low high)

pub area_is_present : (s : Storage) (start : ℕ) (area : Area) → IsSoundStorage s → area_at s start ≡ Some area → IsPresentArea s start area
area_is_present s start area ok e =
    let bounds = area_bounds s start area ok e in
    record { here = bounds.0; nonempty = bounds.1; below = bounds.2; spans = λ a n. area_span s start area a n ok e }
