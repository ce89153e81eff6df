-- What the laws of areas say beyond the facts.
use Rattle.std.proofs.Common.{refl, inl, inr, arith, get_or}
use Rattle.std.proofs.lemmas.Bool.{cases_Bool, eq-eqb, ne_eqb, leb-true, leb-false}
use Rattle.std.proofs.lemmas.Option.{slice_get-get_or}
use Rattle.std.specs.List.{AllByRecursion, filter}
use Rattle.std.specs.Option.{option_map_or}
use Rattle.std.specs.Prelude.{◌≡◌, ℕ, zero, suc, ◌-◌, ◌<◌, ◌≤◌, Bool, false, cond, ◌∷◌, length, Option, Some, None, is_some, nat_le, nat_lt, []}
use Rattle.cx_storage.specs.Facts.Areas.{byte_before}
use Rattle.cx_storage.specs.Facts.Sound.{covers_cases, IsSoundStorage-head, IsSoundStorage-tail, IsSoundStorage-apart, All-filter}
use Rattle.cx_storage.specs.Storage.{area_from}
use Rattle.cx_storage.specs.Laws.Areas.{kept_only, IsNextArea}
use Rattle.cx_storage.specs.Place.{Misses, CanPlace}
use Rattle.cx_storage.specs.Storage.{Held, Storage, end_of, covers, byte_at, area_at, next_area, holder, zeros, put_held, with_area, with_areas_kept, IsWhole, IsSoundStorage}
use Rattle.cx_storage.specs.declared.areas.Area.{Area}
use Rattle.cx_storage.specs.declared.areas.Owner.{Owner}

holder_before : (s : Storage) (e x : ℕ) → AllByRecursion (λ later. e ≤ later.area.start) s → x < e → holder s x ≡ None
unfolding holder
holder_before [] e x apart below = refl
holder_before (h ∷ hs) e x apart below = elim (covers_cases h.area x) [
  | inl c ↦ absurd (omega (arith, apart.0, c.1))
  | inr c ↦ rw c.0 (holder_before hs e x apart.1 below)
]

pub present_held : (s : Storage) (x : ℕ) → IsSoundStorage s → is_some (byte_at s x) ≡ is_some (holder s x)
unfolding byte_at holder
present_held [] x ok = refl
present_held (h ∷ hs) x ok = elim (covers_cases h.area x) [
  | inl c ↦
      let whole = IsSoundStorage-head h hs ok in
      rw (c.0, slice_get-get_or h.bytes (x - h.area.start) 0 (omega (arith, whole.full, c.1, c.2))) refl
  | inr c ↦ rw c.0 (present_held hs x (IsSoundStorage-tail h hs ok))
]

holder_after_put : (h : Held) (s : Storage) (x : ℕ) → AllByRecursion (Misses h.area.len h.area.start) s
    → holder (put_held h s) x ≡ cond (covers h.area x) (Some h.area) (holder s x)
unfolding holder put_held
holder_after_put h [] x misses = refl
holder_after_put h (g ∷ gs) x misses = elim (cases_Bool (nat_lt h.area.start g.area.start)) [
  | inl e ↦ rw e refl
  | inr e ↦
      let rest = holder_after_put h gs x misses.1 in
      rw (e, rest) (elim (covers_cases g.area x) [
        | inl c ↦
            let out : covers h.area x ≡ false = elim (covers_cases h.area x) [
              | inl d ↦ absurd (elim misses.0 [ inl p ↦ omega (arith, p, c.2, d.1) | inr p ↦ omega (arith, p, c.1, d.2) ])
              | inr d ↦ d.0
            ] in
            rw (c.0, out) refl
        | inr c ↦ rw c.0 refl
      ])
]

pub holder_after_get : (s : Storage) (first last len a : ℕ) (owner : Owner) (x : ℕ) → CanPlace s first last len a
    → holder (with_area s (Some a) len owner) x ≡ cond (covers (area_from a len owner) x) (Some (area_from a len owner)) (holder s x)
unfolding with_area CanPlace
holder_after_get s first last len a owner x can = holder_after_put (zeros a len owner) s x can.3

-- areas freed: the bytes of those kept stay, and all others are gone
pub byte_after_free : (s : Storage) (keeps : Area → Bool) (x : ℕ) → IsSoundStorage s
    → byte_at (with_areas_kept keeps s) x ≡ cond (option_map_or keeps (holder s x) false) (byte_at s x) None
unfolding byte_at holder with_areas_kept
byte_after_free [] keeps x ok = refl
byte_after_free (h ∷ hs) keeps x ok = elim (covers_cases h.area x) [
  | inl c ↦ elim (cases_Bool (keeps h.area)) [
    | inl k ↦ rw (k, c.0, k) refl
    | inr k ↦
        let apart = All-filter (λ later. end_of h.area ≤ later.area.start) (λ g. keeps g.area) hs (IsSoundStorage-apart h hs ok) in
        let gone = byte_before (filter (λ g. keeps g.area) hs) (end_of h.area) x apart c.2 in
        rw (k, c.0, k) gone
  ]
  | inr c ↦
      let rest = byte_after_free hs keeps x (IsSoundStorage-tail h hs ok) in
      elim (cases_Bool (keeps h.area)) [
        | inl k ↦ rw (k, c.0) rest
        | inr k ↦ rw (k, c.0) rest
      ]
]

pub holder_after_free : (s : Storage) (keeps : Area → Bool) (x : ℕ) → IsSoundStorage s → holder (with_areas_kept keeps s) x ≡ kept_only keeps (holder s x)
unfolding holder with_areas_kept
holder_after_free [] keeps x ok = refl
holder_after_free (h ∷ hs) keeps x ok = elim (covers_cases h.area x) [
  | inl c ↦ elim (cases_Bool (keeps h.area)) [
    | inl k ↦ rw (k, c.0, k) refl
    | inr k ↦
        let apart = All-filter (λ later. end_of h.area ≤ later.area.start) (λ g. keeps g.area) hs (IsSoundStorage-apart h hs ok) in
        let gone = holder_before (filter (λ g. keeps g.area) hs) (end_of h.area) x apart c.2 in
        rw (k, c.0, k) gone
  ]
  | inr c ↦
      let rest = holder_after_free hs keeps x (IsSoundStorage-tail h hs ok) in
      elim (cases_Bool (keeps h.area)) [
        | inl k ↦ rw (k, c.0) rest
        | inr k ↦ rw (k, c.0) rest
      ]
]

-- any two areas: the first ends before the second starts
pub areas_apart : (s : Storage) (i j : ℕ) (d : Held) → IsSoundStorage s → i < j → j < length s → end_of (get_or s i d).area ≤ (get_or s j d).area.start
areas_apart [] i j d ok before within = absurd (omega arith)
areas_apart (h ∷ hs) i zero d ok before within = absurd (omega arith)
areas_apart (h ∷ hs) zero (suc j) d ok before within = All-get_or' hs j (IsSoundStorage-apart h hs ok) (omega arith)
  where
    All-get_or' : (t : Storage) (k : ℕ) → AllByRecursion (λ later. end_of h.area ≤ later.area.start) t → k < length t → end_of h.area ≤ (get_or t k d).area.start
    All-get_or' [] k all l = absurd (omega arith)
    All-get_or' (g ∷ gs) zero all l = all.0
    All-get_or' (g ∷ gs) (suc k) all l = All-get_or' gs k all.1 (omega arith)
areas_apart (h ∷ hs) (suc i) (suc j) d ok before within = areas_apart hs i j d (IsSoundStorage-tail h hs ok) (omega arith) (omega arith)

pub area_whole : (s : Storage) (i : ℕ) (d : Held) → IsSoundStorage s → i < length s → IsWhole (get_or s i d)
area_whole [] i d ok within = absurd (omega arith)
area_whole (h ∷ hs) zero d ok within = IsSoundStorage-head h hs ok
area_whole (h ∷ hs) (suc i) d ok within = area_whole hs i d (IsSoundStorage-tail h hs ok) (omega arith)

-- the next area: an area that starts below an address isn't one of those that start there or above
area_after : (s : Storage) (e x : ℕ) → AllByRecursion (λ later. e ≤ later.area.start) s → x < e → area_at s x ≡ None
unfolding area_at
area_after [] e x apart below = refl
area_after (h ∷ hs) e x apart below = rw (ne_eqb h.area.start x (λ d. absurd (omega (arith, apart.0)))) (area_after hs e x apart.1 below)

next_after : (h : Held) (hs : Storage) (from : ℕ) (r : Option Area) → h.area.start < from → IsNextArea hs from r → IsNextArea (h ∷ hs) from r
unfolding area_at
next_after h hs from None below next = λ start low. rw (ne_eqb h.area.start start (λ d. absurd (omega arith))) (next start low)
next_after h hs from (Some area) below next =
    let above = next.1 in (
      rw (ne_eqb h.area.start area.start (λ d. absurd (omega arith))) next.0,
      above,
      λ start low high. rw (ne_eqb h.area.start start (λ d. absurd (omega arith))) (next.2 start low high),
    )

pub next_area_is_least : (s : Storage) (from : ℕ) → IsSoundStorage s → IsNextArea s from (next_area s from)
unfolding next_area area_at
next_area_is_least [] from ok = λ start low. refl
next_area_is_least (h ∷ hs) from ok = elim (cases_Bool (nat_le from h.area.start)) [
  | inl e ↦
      let here = leb-true from h.area.start e in
      rw e (
        rw (eq-eqb h.area.start h.area.start refl) refl,
        here,
        λ start low high. rw (ne_eqb h.area.start start (λ d. absurd (omega arith))) (area_after hs (end_of h.area) start (IsSoundStorage-apart h hs ok) (omega arith)),
      )
  | inr e ↦ rw e (next_after h hs from (next_area hs from) (leb-false from h.area.start e) (next_area_is_least hs from (IsSoundStorage-tail h hs ok)))
]
