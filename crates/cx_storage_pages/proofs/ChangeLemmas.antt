-- What pages show after a change of them.
use Rattle.std.proofs.Common.{◌≡◌, ◌≢◌, ℕ, zero, suc, ◌+◌, ◌/◌, ◌%◌, ◌<◌, ◌≤◌, ◌^◌, Bool, true, false, not, refl, sym, ap, ◌∙◌, arith, inl, inr, List, [], ◌∷◌, map, length, slice_get, drop, Option, Some, None, nat_le, nat_lt, ◌&&◌, if◌then◌else◌, get_or}
use Rattle.std.proofs.lemmas.Bool.{cases_Bool, cases_eq, eq-eqb, ne_eqb, le-ltb, lt-ltb, le-leb, and_parts, ltb-true, ltb-false, leb-true}
use Rattle.std.proofs.lemmas.Option.{slice_get_read}
use Rattle.std.proofs.lemmas.List.{at_drop_more, drop_all}
use Rattle.std.specs.List.{AllByRecursion, filter, insert, list_any, remove}
use Rattle.cx_storage.specs.Storage.{Held, Storage, end_of, covers, byte_at, area_at, areas_of, area_from, zeros, put_held, with_area, with_areas_kept, with_byte, starts_elsewhere, IsWhole, IsSoundStorage}
use Rattle.cx_storage.specs.Place.{Misses, CanPlace, IsLeastPlace}
use Rattle.cx_storage.specs.Facts.Sound.{IsSoundStorage-head, IsSoundStorage-tail, IsSoundStorage-apart, covers_cases, All-filter, sound_with_byte, sound_with_area, sound_with_areas_kept}
use Rattle.cx_storage.specs.Facts.Areas.{byte_before, byte_after_get}
use Rattle.cx_storage.specs.Facts.Writes.{byte_after_set, byte_after_set_elsewhere, areas_after_set}
use Rattle.cx_storage.specs.declared.areas.Area.{Area}
use Rattle.cx_storage.specs.declared.areas.Owner.{Owner}
use Rattle.cx_storage_pages.specs.declared.page.Page.{Page}
use Rattle.cx_storage_pages.specs.Parts.Change.{is_within, Changes, Sets, Fills, zero_to}
use Rattle.cx_storage_pages.specs.Pages.{byte_in_pages, held_in, storage_of}
use Rattle.cx_storage_pages.specs.Parts.Shown.{areas_before, IsAligned, IsShown}
use Rattle.cx_storage_pages.proofs.ShownLemmas.{Shows, shows, areas_shown, shown_sound, shown_aligned, shown_byte}

-- a byte set
pub set_shows : (areas : List Area) (old new : List Page) (a v : ℕ) → v < 256 → IsShown areas old → Sets a v (byte_in_pages old) (byte_in_pages new) → Shows (with_byte (storage_of areas old) a v) areas new
set_shows areas old new a v small shown each =
    let s = storage_of areas old in
    shows (with_byte s a v) areas new (sound_with_byte s a v (shown_sound areas old shown) small) (areas_after_set s a v ∙ areas_shown areas old) (shown_aligned areas old shown)
    (λ x. each x ∙ elim (cases_eq x a) [
      | inl e ↦ rw (eq-eqb x a e, e, shown_byte areas old a shown) (sym (byte_after_set s a v))
      | inr ne ↦ rw (ne_eqb x a ne, shown_byte areas old x shown) (sym (byte_after_set_elsewhere s a v x ne))
    ])

-- where areas start at multiples of 16, none reaches into the granules that a second one begins
AlignedHeld : Storage → Type 0
AlignedHeld s = AllByRecursion (λ h. IsAligned h.area) s

held_aligned : (areas : List Area) (pages : List Page) → AllByRecursion IsAligned areas → AlignedHeld (storage_of areas pages)
unfolding AlignedHeld storage_of
held_aligned [] pages all = tt
held_aligned (area ∷ areas) pages all = (all.0, held_aligned areas pages all.1)

tail_absent : (s : Storage) (a len x : ℕ) → a % 16 ≡ 0 → 0 < len → AlignedHeld s → AllByRecursion (Misses len a) s → a + len ≤ x → x / 16 < (a + len + 15) / 16 → byte_at s x ≡ None
unfolding byte_at AlignedHeld
tail_absent [] a len x even some aligned misses past within = refl
tail_absent (h ∷ hs) a len x even some aligned misses past within = elim (covers_cases h.area x) [
  | inl c ↦
      let low : h.area.start ≤ x = c.1 in
      let high : x < end_of h.area = c.2 in
      let mine : h.area.start % 16 ≡ 0 = aligned.0 in
      absurd (elim misses.0 [ inl p ↦ omega (arith, p, high) | inr p ↦ omega (arith, p, low, mine) ])
  | inr c ↦ rw c.0 (tail_absent hs a len x even some aligned.1 misses.1 past within)
]

-- the granules of a span from a multiple of 16 on
granules_of : (start end x : ℕ) → start ≤ x → x < end → is_within (start / 16) ((end + 15) / 16) (x / 16) ≡ true
granules_of start end x low high = rw (le-leb (start / 16) (x / 16) (omega (arith, low)), lt-ltb (x / 16) ((end + 15) / 16) (omega (arith, high))) refl

granules_from : (start end x : ℕ) → start % 16 ≡ 0 → is_within (start / 16) ((end + 15) / 16) (x / 16) ≡ true → (start ≤ x) × (x / 16 < (end + 15) / 16)
granules_from start end x even inside =
    let both = and_parts (nat_le (start / 16) (x / 16)) (nat_lt (x / 16) ((end + 15) / 16)) inside in
    let low = leb-true _ _ both.0 in
    (omega (arith, low, even), ltb-true _ _ both.1)

-- an area's granules made zero up to its end
abbrev pub Zeroed : ℕ → ℕ → List Page → List Page → Type 0
Zeroed a len old new = Fills (a / 16) ((a + len + 15) / 16) (zero_to (a + len)) (byte_in_pages old) (byte_in_pages new)

-- and made absent
abbrev pub Cleared : Area → (ℕ → Option ℕ) → (ℕ → Option ℕ) → Type 0
Cleared area old new = Fills (area.start / 16) ((end_of area + 15) / 16) (λ _. None) old new

-- bytes of a fresh area
pub get_bytes : (areas : List Area) (old new : List Page) (first last len a : ℕ) (owner : Owner) → IsShown areas old → 0 < len → CanPlace (storage_of areas old) first last len a
    → Zeroed a len old new → (x : ℕ) → byte_in_pages new x ≡ byte_at (with_area (storage_of areas old) (Some a) len owner) x
unfolding CanPlace
get_bytes areas old new first last len a owner shown some can each x =
    let s = storage_of areas old in
    let after = byte_after_get s first last len a owner x can in
    each x ∙ elim (covers_cases (area_from a len owner) x) [
      | inl c ↦
          let low : a ≤ x = c.1 in
          let high : x < a + len = c.2 in
          rw (granules_of a (a + len) x low high, lt-ltb x (a + len) high) (sym (rw c.0 at after))
      | inr c ↦ elim (cases_Bool (is_within (a / 16) ((a + len + 15) / 16) (x / 16))) [
        | inl inside ↦
            let both = granules_from a (a + len) x can.0 inside in
            let past : a + len ≤ x = elim c.1 [ inl before ↦ absurd (omega (arith, before, both.0)) | inr beyond ↦ beyond ] in
            let gone = tail_absent s a len x can.0 some (held_aligned areas old (shown_aligned areas old shown)) can.3 past both.1 in
            rw (inside, le-ltb x (a + len) past) (sym (rw c.0 at after ∙ gone))
        | inr outside ↦ rw (outside, shown_byte areas old x shown) (sym (rw c.0 at after))
      ]
    ]

-- where a fresh area is in the table
put_spot : (h : Held) (s : Storage) → AllByRecursion (λ g. g.area.start ≢ h.area.start) s → areas_of (put_held h s) ≡ insert (areas_of s) (areas_before h.area.start (areas_of s)) h.area
unfolding put_held areas_of
put_spot h [] other = refl
put_spot h (g ∷ gs) other = elim (cases_Bool (nat_lt h.area.start g.area.start)) [
  | inl e ↦ rw (e, le-ltb g.area.start h.area.start (let lt = ltb-true _ _ e in omega arith)) refl
  | inr e ↦
      let ge = ltb-false _ _ e in
      rw (e, lt-ltb g.area.start h.area.start (omega (arith, ge, other.0))) (ap (λ rest. g.area ∷ rest) (put_spot h gs other.1))
]

missed_starts : (s : Storage) (a len : ℕ) → 0 < len → AllByRecursion IsWhole s → AllByRecursion (Misses len a) s → AllByRecursion (λ g. g.area.start ≢ a) s
missed_starts [] a len some whole misses = tt
missed_starts (g ∷ gs) a len some whole misses =
    let mine = whole.0.nonempty in
    (λ e. absurd (elim misses.0 [ inl p ↦ omega (arith, p) | inr p ↦ omega (arith, p) ]), missed_starts gs a len some whole.1 misses.1)

get_areas : (s : Storage) (first last len a : ℕ) (owner : Owner) → IsSoundStorage s → 0 < len → CanPlace s first last len a
    → areas_of (with_area s (Some a) len owner) ≡ insert (areas_of s) (areas_before a (areas_of s)) (area_from a len owner)
unfolding with_area CanPlace IsSoundStorage
get_areas s first last len a owner ok some can = put_spot (zeros a len owner) s (missed_starts s a len some ok.0 can.3)

aligned_insert : (areas : List Area) (i : ℕ) (area : Area) → IsAligned area → AllByRecursion IsAligned areas → AllByRecursion IsAligned (insert areas i area)
aligned_insert areas zero area here all = (here, all)
aligned_insert [] (suc i) area here all = (here, tt)
aligned_insert (b ∷ bs) (suc i) area here all = (all.0, aligned_insert bs i area here all.1)

pub get_shows : (areas : List Area) (old new : List Page) (first last len a : ℕ) (owner : Owner) → IsShown areas old → last < 2 ^ 24 → 0 < len → IsLeastPlace (storage_of areas old) first last len (Some a)
    → Zeroed a len old new → Shows (with_area (storage_of areas old) (Some a) len owner) (insert areas (areas_before a areas) (area_from a len owner)) new
unfolding IsLeastPlace CanPlace
get_shows areas old new first last len a owner shown below some placed each =
    let s = storage_of areas old in
    let sound = shown_sound areas old shown in
    let table = rw (areas_shown areas old) at (get_areas s first last len a owner sound some placed.0) in
    shows (with_area s (Some a) len owner) (insert areas (areas_before a areas) (area_from a len owner)) new (sound_with_area s first last len (Some a) owner sound below some placed) table
    (aligned_insert areas (areas_before a areas) (area_from a len owner) placed.0.0 (shown_aligned areas old shown)) (get_bytes areas old new first last len a owner shown some placed.0 each)

-- areas freed: a byte is gone where an area that isn't kept has its address
goes : (Area → Bool) → Storage → ℕ → Bool
goes keeps s x = list_any (λ h. not (keeps h.area) && covers h.area x) s

goes_after : (keeps : Area → Bool) (s : Storage) (e x : ℕ) → AllByRecursion (λ later. e ≤ later.area.start) s → x < e → goes keeps s x ≡ false
unfolding goes
goes_after keeps [] e x apart below = refl
goes_after keeps (h ∷ hs) e x apart below = elim (covers_cases h.area x) [
  | inl c ↦ absurd (omega (arith, apart.0, c.1))
  | inr c ↦ elim (cases_Bool (keeps h.area)) [
    | inl k ↦ rw (c.0, k) (goes_after keeps hs e x apart.1 below)
    | inr k ↦ rw (c.0, k) (goes_after keeps hs e x apart.1 below)
  ]
]

free_byte : (s : Storage) (keeps : Area → Bool) (x : ℕ) → IsSoundStorage s → byte_at (with_areas_kept keeps s) x ≡ (if goes keeps s x then None else byte_at s x)
unfolding goes byte_at with_areas_kept
free_byte [] keeps x ok = refl
free_byte (h ∷ hs) keeps x ok =
    let rest = free_byte hs keeps x (IsSoundStorage-tail h hs ok) in
    elim (covers_cases h.area x) [
      | inl c ↦ elim (cases_Bool (keeps h.area)) [
        | inl k ↦ rw (k, c.0, goes_after keeps hs (end_of h.area) x (IsSoundStorage-apart h hs ok) c.2) refl
        | inr k ↦
            let apart = All-filter (λ later. end_of h.area ≤ later.area.start) (λ g. keeps g.area) hs (IsSoundStorage-apart h hs ok) in
            rw (k, c.0) (byte_before (filter (λ g. keeps g.area) hs) (end_of h.area) x apart c.2)
      ]
      | inr c ↦ elim (cases_Bool (keeps h.area)) [
        | inl k ↦ rw (k, c.0) rest
        | inr k ↦ rw (k, c.0) rest
      ]
    ]

areas_kept : (s : Storage) (keeps : Area → Bool) → areas_of (with_areas_kept keeps s) ≡ filter keeps (areas_of s)
unfolding areas_of with_areas_kept
areas_kept [] keeps = refl
areas_kept (h ∷ hs) keeps = elim (cases_Bool (keeps h.area)) [
  | inl k ↦ rw k (ap (λ rest. h.area ∷ rest) (areas_kept hs keeps))
  | inr k ↦ rw k (areas_kept hs keeps)
]

aligned_filter : (areas : List Area) (keeps : Area → Bool) → AllByRecursion IsAligned areas → AllByRecursion IsAligned (filter keeps areas)
aligned_filter [] keeps all = tt
aligned_filter (area ∷ areas) keeps all = elim (cases_Bool (keeps area)) [
  | inl k ↦ rw k (all.0, aligned_filter areas keeps all.1)
  | inr k ↦ rw k (aligned_filter areas keeps all.1)
]

-- whether an area of the table goes that has an address
unfoldable pub goes_in : (Area → Bool) → List Area → ℕ → Bool
goes_in keeps areas x = list_any (λ area. not (keeps area) && covers area x) areas

goes_same : (keeps : Area → Bool) (areas : List Area) (pages : List Page) (x : ℕ) → goes keeps (storage_of areas pages) x ≡ goes_in keeps areas x
unfolding goes goes_in storage_of
goes_same keeps [] pages x = refl
goes_same keeps (area ∷ areas) pages x = rw (goes_same keeps areas pages x) refl

pub free_shows : (areas : List Area) (old new : List Page) (keeps : Area → Bool) → IsShown areas old → Changes (goes_in keeps areas) (λ _. None) (byte_in_pages old) (byte_in_pages new)
    → Shows (with_areas_kept keeps (storage_of areas old)) (filter keeps areas) new
free_shows areas old new keeps shown each =
    let s = storage_of areas old in
    let table = rw (areas_shown areas old) at (areas_kept s keeps) in
    shows (with_areas_kept keeps s) (filter keeps areas) new (sound_with_areas_kept s keeps (shown_sound areas old shown)) table (aligned_filter areas keeps (shown_aligned areas old shown))
    (λ x. each x ∙ rw (shown_byte areas old x shown) (sym (free_byte s keeps x (shown_sound areas old shown) ∙ rw (goes_same keeps areas old x) refl)))

-- no byte follows an area in its last granule
tail_after : (s : Storage) (e x : ℕ) → AlignedHeld s → AllByRecursion (λ later. e ≤ later.area.start) s → x / 16 < (e + 15) / 16 → byte_at s x ≡ None
unfolding byte_at AlignedHeld
tail_after [] e x aligned apart within = refl
tail_after (h ∷ hs) e x aligned apart within = elim (covers_cases h.area x) [
  | inl c ↦
      let low : h.area.start ≤ x = c.1 in
      let mine : h.area.start % 16 ≡ 0 = aligned.0 in
      absurd (omega (arith, apart.0, low, mine))
  | inr c ↦ rw c.0 (tail_after hs e x aligned.1 apart.1 within)
]

granule_after : (areas : List Area) (pages : List Page) (i x : ℕ) (area : Area) → IsSoundStorage (storage_of areas pages) → AlignedHeld (storage_of areas pages) → slice_get areas i ≡ Some area
    → end_of area ≤ x → x / 16 < (end_of area + 15) / 16 → byte_at (storage_of areas pages) x ≡ None
unfolding byte_at storage_of AlignedHeld
granule_after [] pages i x area ok aligned at past within = cc
granule_after (b ∷ bs) pages zero x area ok aligned at past within =
    let same : b ≡ area = cc in
    let past' : end_of b ≤ x = rw same past in
    let within' : x / 16 < (end_of b + 15) / 16 = rw same within in
    elim (covers_cases b x) [
      | inl c ↦ absurd (omega (arith, c.2, past'))
      | inr c ↦ rw c.0 (tail_after (storage_of bs pages) (end_of b) x aligned.1 (IsSoundStorage-apart (held_in pages b) (storage_of bs pages) ok) within')
    ]
granule_after (b ∷ bs) pages (suc i) x area ok aligned at past within = elim (covers_cases b x) [
  | inl c ↦
      let beyond = later_is bs (end_of b) i area (IsSoundStorage-apart (held_in pages b) (storage_of bs pages) ok) at in
      absurd (omega (arith, c.2, past, beyond))
  | inr c ↦ rw c.0 (granule_after bs pages i x area (IsSoundStorage-tail (held_in pages b) (storage_of bs pages) ok) aligned.1 at past within)
]
  where
    later_is : (cs : List Area) (e j : ℕ) (a : Area) → AllByRecursion (λ later. e ≤ later.area.start) (map (held_in pages) cs) → slice_get cs j ≡ Some a → e ≤ a.start
    later_is [] e j a all f = cc
    later_is (d ∷ ds) e zero a all f = let same : d ≡ a = cc in rw (← same) all.0
    later_is (d ∷ ds) e (suc j) a all f = later_is ds e j a all.1 f

-- what an area of the table has
area_fits_in : (area : Area) (bs : List Area) (pages : List Page) (j : ℕ) → IsSoundStorage (storage_of bs pages) → AllByRecursion IsAligned bs → slice_get bs j ≡ Some area → (area.start % 16 ≡ 0) × (area.start < end_of area) × (end_of area ≤ 2 ^ 24)
unfolding storage_of
area_fits_in area [] pages j ok aligned e = cc
area_fits_in area (b ∷ bs) pages zero ok aligned e =
    let same : b ≡ area = cc in
    let whole = IsSoundStorage-head (held_in pages b) (storage_of bs pages) ok in
    let some : 0 < b.len = whole.nonempty in
    let below : end_of b ≤ 2 ^ 24 = whole.below in
    rw (← same) (aligned.0, omega (arith, some), below)
area_fits_in area (b ∷ bs) pages (suc j) ok aligned e = area_fits_in area bs pages j (IsSoundStorage-tail (held_in pages b) (storage_of bs pages) ok) aligned.1 e

pub area_fits : (areas : List Area) (pages : List Page) (i : ℕ) (area : Area) → IsShown areas pages → i < length areas → area ≡ get_or areas i area
    → (area.start % 16 ≡ 0) × (area.start < end_of area) × (end_of area ≤ 2 ^ 24)
area_fits areas pages i area shown within at =
    area_fits_in area areas pages i (shown_sound areas pages shown) (shown_aligned areas pages shown) (slice_get_read areas (length areas) i area refl within at)

-- the granules of an area cleared: its bytes are gone, and no others
pub cleared : (areas : List Area) (pages : List Page) (i x : ℕ) (area : Area) (o : Option ℕ) → IsShown areas pages → slice_get areas i ≡ Some area → (byte_in_pages pages x ≡ None → o ≡ None)
    → (if is_within (area.start / 16) ((end_of area + 15) / 16) (x / 16) then None else o) ≡ (if covers area x then None else o)
cleared areas pages i x area o shown at gone = elim (covers_cases area x) [
  | inl c ↦
      let low : area.start ≤ x = c.1 in
      let high : x < end_of area = c.2 in
      rw (c.0, granules_of area.start (end_of area) x low high) refl
  | inr c ↦ elim (cases_Bool (is_within (area.start / 16) ((end_of area + 15) / 16) (x / 16))) [
    | inl inside ↦
        let fits = area_fits_in area areas pages i (shown_sound areas pages shown) (shown_aligned areas pages shown) at in
        let both = granules_from area.start (end_of area) x fits.0 inside in
        let past : end_of area ≤ x = elim c.1 [ inl before ↦ absurd (omega (arith, before, both.0)) | inr beyond ↦ beyond ] in
        let absent = granule_after areas pages i x area (shown_sound areas pages shown) (held_aligned areas pages (shown_aligned areas pages shown)) at past both.1 in
        rw (c.0, inside) (sym (gone (shown_byte areas pages x shown ∙ absent)))
    | inr outside ↦ rw (c.0, outside) refl
  ]
]

-- the area of one start goes alone
goes_past : (areas : List Area) (pages : List Page) (start e x : ℕ) → AllByRecursion (λ later. e ≤ later.area.start) (storage_of areas pages) → start < e → goes_in (starts_elsewhere start) areas x ≡ false
unfolding goes_in storage_of
goes_past [] pages start e x apart below = refl
goes_past (b ∷ bs) pages start e x apart below = rw (ne_eqb b.start start (λ d. absurd (omega (arith, apart.0)))) (goes_past bs pages start e x apart.1 below)

later_in : (cs : List Area) (ps : List Page) (f j : ℕ) (a : Area) → AllByRecursion (λ later. f ≤ later.area.start) (storage_of cs ps) → slice_get cs j ≡ Some a → f ≤ a.start
unfolding storage_of
later_in [] ps f j a all d = cc
later_in (d ∷ ds) ps f zero a all k = let same : d ≡ a = cc in rw (← same) all.0
later_in (d ∷ ds) ps f (suc j) a all k = later_in ds ps f j a all.1 k

pub one_goes : (areas : List Area) (pages : List Page) (i start x : ℕ) (area : Area) → IsSoundStorage (storage_of areas pages) → slice_get areas i ≡ Some area → area.start ≡ start
    → goes_in (starts_elsewhere start) areas x ≡ covers area x
unfolding goes_in storage_of
one_goes [] pages i start x area ok at e = cc
one_goes (b ∷ bs) pages zero start x area ok at e =
    let same : b ≡ area = cc in
    let here : b.start ≡ start = rw same e in
    let some : 0 < b.len = (IsSoundStorage-head (held_in pages b) (storage_of bs pages) ok).nonempty in
    let rest = goes_past bs pages start (end_of b) x (IsSoundStorage-apart (held_in pages b) (storage_of bs pages) ok) (omega (arith, here, some)) in
    rw (← same, eq-eqb b.start start here, rest) (elim (cases_Bool (covers b x)) [ inl k ↦ rw k refl | inr k ↦ rw k refl ])
one_goes (b ∷ bs) pages (suc i) start x area ok at e =
    let some : 0 < b.len = (IsSoundStorage-head (held_in pages b) (storage_of bs pages) ok).nonempty in
    let beyond = later_in bs pages (end_of b) i area (IsSoundStorage-apart (held_in pages b) (storage_of bs pages) ok) at in
    rw (ne_eqb b.start start (λ d. absurd (omega (arith, beyond, some, e)))) (one_goes bs pages i start x area (IsSoundStorage-tail (held_in pages b) (storage_of bs pages) ok) at e)

pub none_freed : (s : Storage) (start : ℕ) → area_at s start ≡ None → with_areas_kept (starts_elsewhere start) s ≡ s
unfolding area_at with_areas_kept
none_freed [] start e = refl
none_freed (h ∷ hs) start e = elim (cases_eq h.area.start start) [
  | inl c ↦ let found = rw (eq-eqb h.area.start start c) at e in cc
  | inr c ↦ let beyond = rw (ne_eqb h.area.start start c) at e in rw (ne_eqb h.area.start start c) (ap (λ rest. h ∷ rest) (none_freed hs start beyond))
]

-- the areas of a slot, one after the other
pub slot_step : (keeps : Area → Bool) (areas : List Area) (old : List Page) (now new : ℕ → Option ℕ) (i x : ℕ) (area : Area) → IsShown areas old → i < length areas → area ≡ get_or areas i area
    → keeps area ≡ false → (byte_in_pages old x ≡ None → now x ≡ None) → Cleared area now new
    → (if goes_in keeps (drop (i + 1) areas) x then None else new x) ≡ (if goes_in keeps (drop i areas) x then None else now x)
unfolding goes_in
slot_step keeps areas old now new i x area shown within at k gone step =
    let here = slice_get_read areas (length areas) i area refl within at in
    let split = at_drop_more (λ (t : List Area). list_any (λ a. not (keeps a) && covers a x) t) areas i area within in
    let split' = rw (← at) at split in
    rw (split', step x, cleared areas old i x area (now x) shown here gone, k) (elim (cases_Bool (covers area x)) [
      | inl c ↦ rw c (elim (cases_Bool (list_any (λ a. not (keeps a) && covers a x) (drop (i + 1) areas))) [ inl g ↦ rw g refl | inr g ↦ rw g refl ])
      | inr c ↦ rw c refl
    ])

pub slot_kept : (keeps : Area → Bool) (areas : List Area) (i x : ℕ) (area : Area) → i < length areas → area ≡ get_or areas i area → keeps area ≡ true
    → goes_in keeps (drop (i + 1) areas) x ≡ goes_in keeps (drop i areas) x
unfolding goes_in
slot_kept keeps areas i x area within at k =
    let split = at_drop_more (λ (t : List Area). list_any (λ a. not (keeps a) && covers a x) t) areas i area within in
    let split' = rw (← at) at split in
    rw (split', k) refl

pub goes_none : (keeps : Area → Bool) (areas : List Area) (i x : ℕ) → length areas ≤ i → goes_in keeps (drop i areas) x ≡ false
unfolding goes_in
goes_none keeps areas i x past = rw (drop_all i areas past) refl

pub still_gone : (area : Area) (now new : ℕ → Option ℕ) (x : ℕ) → now x ≡ None → Cleared area now new → new x ≡ None
still_gone area now new x gone step = step x ∙ elim (cases_Bool (is_within (area.start / 16) ((end_of area + 15) / 16) (x / 16))) [ inl e ↦ rw e refl | inr e ↦ rw e gone ]

-- pages that show the same bytes show the same
pub same_shows : (areas : List Area) (old new : List Page) → IsShown areas old → ((x : ℕ) → byte_in_pages new x ≡ byte_in_pages old x) → Shows (storage_of areas old) areas new
same_shows areas old new shown each =
    shows (storage_of areas old) areas new (shown_sound areas old shown) (areas_shown areas old) (shown_aligned areas old shown) (λ x. each x ∙ shown_byte areas old x shown)

-- a fresh area, in pages that were made for it and show the same until then
pub made_shows : (areas after : List Area) (old made new : List Page) (i first last len a : ℕ) (owner : Owner) → IsShown areas old → last < 2 ^ 24 → 0 < len → IsLeastPlace (storage_of areas old) first last len (Some a)
    → i ≡ areas_before a areas → after ≡ insert areas i (area_from a len owner) → ((x : ℕ) → byte_in_pages made x ≡ byte_in_pages old x) → Zeroed a len made new → Shows (with_area (storage_of areas old) (Some a) len owner) after new
made_shows areas after old made new i first last len a owner shown below some placed at put same each =
    let now = same_shows areas old made shown same in
    let least : IsLeastPlace (storage_of areas made) first last len (Some a) = rw now.is placed in
    rw (put, at) (rw now.is at (get_shows areas made new first last len a owner now.shown below some least each))

-- the area that starts at an address, freed
pub one_freed : (areas : List Area) (old new : List Page) (i start : ℕ) (area : Area) → IsShown areas old → i < length areas → area ≡ get_or areas i area → area.start ≡ start
    → Fills (start / 16) ((start + area.len + 15) / 16) (λ _. None) (byte_in_pages old) (byte_in_pages new) → Changes (goes_in (starts_elsewhere start) areas) (λ _. None) (byte_in_pages old) (byte_in_pages new)
one_freed areas old new i start area shown within at here each = λ x.
    let found = slice_get_read areas (length areas) i area refl within at in
    let goes = one_goes areas old i start x area (shown_sound areas old shown) found here in
    let step = rw (← here) at (each x) in
    rw goes (step ∙ cleared areas old i x area (byte_in_pages old x) shown found (λ e. e))

-- the area that starts at an address, taken out of the table
kept_past : (areas : List Area) (pages : List Page) (start e : ℕ) → AllByRecursion (λ later. e ≤ later.area.start) (storage_of areas pages) → start < e → filter (starts_elsewhere start) areas ≡ areas
unfolding storage_of
kept_past [] pages start e apart below = refl
kept_past (b ∷ bs) pages start e apart below = rw (ne_eqb b.start start (λ d. absurd (omega (arith, apart.0)))) (ap (λ rest. b ∷ rest) (kept_past bs pages start e apart.1 below))

taken_out : (areas : List Area) (pages : List Page) (i start : ℕ) (area : Area) → IsSoundStorage (storage_of areas pages) → slice_get areas i ≡ Some area → area.start ≡ start
    → remove areas i ≡ filter (starts_elsewhere start) areas
unfolding storage_of
taken_out [] pages i start area ok at e = cc
taken_out (b ∷ bs) pages zero start area ok at e =
    let same : b ≡ area = cc in
    let here : b.start ≡ start = rw same e in
    let some : 0 < b.len = (IsSoundStorage-head (held_in pages b) (storage_of bs pages) ok).nonempty in
    rw (eq-eqb b.start start here) (sym (kept_past bs pages start (end_of b) (IsSoundStorage-apart (held_in pages b) (storage_of bs pages) ok) (omega (arith, here, some))))
taken_out (b ∷ bs) pages (suc i) start area ok at e =
    let some : 0 < b.len = (IsSoundStorage-head (held_in pages b) (storage_of bs pages) ok).nonempty in
    let beyond = later_in bs pages (end_of b) i area (IsSoundStorage-apart (held_in pages b) (storage_of bs pages) ok) at in
    rw (ne_eqb b.start start (λ d. absurd (omega (arith, beyond, some, e)))) (ap (λ rest. b ∷ rest) (taken_out bs pages i start area (IsSoundStorage-tail (held_in pages b) (storage_of bs pages) ok) at e))

pub removed : (areas : List Area) (pages : List Page) (i start : ℕ) (area : Area) → IsShown areas pages → i < length areas → area ≡ get_or areas i area → area.start ≡ start
    → remove areas i ≡ filter (starts_elsewhere start) areas
removed areas pages i start area shown within at here =
    taken_out areas pages i start area (shown_sound areas pages shown) (slice_get_read areas (length areas) i area refl within at) here
