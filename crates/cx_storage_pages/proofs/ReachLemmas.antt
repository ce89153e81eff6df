-- The granules that a count goes past.
use Rattle.std.proofs.Common.{true, false, is_some, Some, None, List, ◌≡◌, ℕ, ◌+◌, ◌-◌, ◌*◌, ◌/◌, ◌%◌, ◌<◌, ◌≤◌, ◌∙◌, refl, arith, inl, inr, length, slice_index, slice_get, nat_lt, max, min, if◌then◌else◌, lt-ltb, le-ltb}
use Rattle.std.proofs.lemmas.Bool.{cases_lt, cases_eq, le-leb, lt-leb, ltb-true, false≢true}
use Rattle.cx_storage_pages.specs.declared.frame.Frame.{Frame}
use Rattle.cx_storage_pages.specs.Parts.Change.{is_within, Changes, Recounts, Fills, zero_to}
use Rattle.cx_storage_pages.specs.Parts.Frame.{HasAll}
use Rattle.cx_storage_pages.specs.Pages.{frame_byte}
use Rattle.cx_storage_pages.proofs.FrameLemmas.{has_all, has_short, has_last, granule_taken, index_past}
use Rattle.cx_storage_pages.specs.Parts.Reach.{Reaches, is_row}

-- where the granule before one isn't full, no row goes on past it
pub cut_short : (counts : List ℕ) (g : ℕ) → Reaches counts → 0 < g → slice_index counts (g - 1) < 16
    → Recounts (λ h. nat_lt h g) (λ h. min (slice_index counts h) (16 * (g - h))) counts counts
cut_short counts g holds some short = λ h. elim (cases_lt h g) [
  | inl before ↦
      let fits : slice_index counts h ≤ 16 * (g - h) = elim (cases_lt (16 * (g - h)) (slice_index counts h)) [
        | inl past ↦
            let place : h + (g - 1 - h) ≡ g - 1 = omega (arith, before) in
            let full = rw place at (holds.0 h (g - 1 - h) (omega (arith, past, before))) in
            absurd (omega (arith, full, short))
        | inr within ↦ within
      ] in
      let least : min (slice_index counts h) (16 * (g - h)) ≡ slice_index counts h = omega (arith, fits) in
      rw (lt-ltb h g before, least) refl
  | inr past ↦ rw (le-ltb h g past) refl
]

-- the granules that a count goes past are full
pub more_full : (counts : List ℕ) (from g : ℕ) → Reaches counts → 16 ≤ slice_index counts g → from ≤ g
    → ((j : ℕ) → from ≤ j → j < g → 16 ≤ slice_index counts j)
    → (from ≤ g + slice_index counts g / 16) × ((j : ℕ) → from ≤ j → j < g + slice_index counts g / 16 → 16 ≤ slice_index counts j)
more_full counts from g holds full low all = (
  omega (arith, low),
  λ j above below. elim (cases_lt j g) [
    | inl before ↦ all j above before
    | inr after ↦
        let place : g + (j - g) ≡ j = omega (arith, after) in
        let follows = holds.0 g (j - g) (omega (arith, below, after, full)) in
        rw place at follows
  ],
)

-- the granules of a row have bytes
pub row_taken : (frame : Frame) (g j : ℕ) → (length frame.bytes ≡ 4096) × (length frame.counts ≡ 256) → is_some (frame_byte frame (g * 16)) ≡ true → g ≤ j → j < g + max (slice_index frame.counts g / 16) 1
    → is_some (frame_byte frame (j * 16)) ≡ true
row_taken frame g j whole here low high = elim (cases_eq j g) [
  | inl same ↦ rw same here
  | inr ne ↦
      let place : g + (j - g) ≡ j = omega (arith, low) in
      let full = rw place at (frame.reached.0 g (j - g) (omega (arith, low, high, ne))) in
      granule_taken frame j whole.0 whole.1 (omega (arith, full))
]

pub row_within : (frame : Frame) (g : ℕ) → length frame.counts ≡ 256 → g < 256 → g + max (slice_index frame.counts g / 16) 1 ≤ 256
row_within frame g whole within = elim (cases_lt (g + max (slice_index frame.counts g / 16) 1) 257) [
  | inl fits ↦ omega (arith, fits)
  | inr past ↦
      let last : ℕ = slice_index frame.counts g / 16 - 1 in
      let full = frame.reached.0 g last (omega (arith, past, within)) in
      let none = index_past frame.counts (g + last) (omega (arith, past, within, whole)) in
      absurd (omega (arith, full, none))
]

-- granules counted in three parts: long rows, shorter ones, and none
pub counted_parts : (old filled counted new : List ℕ) (first long none end to : ℕ) → first ≤ long → long ≤ none → none ≤ end
    → ((h : ℕ) → first ≤ h → h < long → 16 * h + 255 ≤ to) → ((h : ℕ) → none ≤ h → h < end → to ≤ 16 * h)
    → Recounts (is_within first long) (λ _. 255) old filled → Recounts (is_within long none) (λ h. min (to - 16 * h) 255) filled counted
    → Recounts (is_within none end) (λ _. 0) counted new → Recounts (is_within first end) (λ h. min (to - 16 * h) 255) old new
counted_parts old filled counted new first long none end to o1 o2 o3 high_rows low_rows one two three = λ h. elim (cases_lt h first) [
  | inl before ↦
      rw (three h, two h, one h, lt-leb first h before, lt-leb long h (omega (arith, before, o1)), lt-leb none h (omega (arith, before, o1, o2))) refl
  | inr from ↦ elim (cases_lt h long) [
    | inl row ↦
        let most : min (to - 16 * h) 255 ≡ 255 = let all = high_rows h from row in omega (arith, all) in
        rw (three h, two h, one h, le-leb first h from, lt-ltb h long row, lt-leb long h row, lt-leb none h (omega (arith, row, o2)), lt-ltb h end (omega (arith, row, o2, o3)), most) refl
    | inr past ↦ elim (cases_lt h none) [
      | inl some ↦
          rw (three h, two h, le-leb first h from, le-leb long h past, lt-ltb h none some, lt-leb none h some, lt-ltb h end (omega (arith, some, o3))) refl
      | inr gone ↦ elim (cases_lt h end) [
        | inl inside ↦
            let none_left : min (to - 16 * h) 255 ≡ 0 = let all = low_rows h gone inside in omega (arith, all) in
            rw (three h, le-leb first h from, le-leb none h gone, lt-ltb h end inside, none_left) refl
        | inr after ↦
            rw (three h, two h, one h, le-leb first h from, le-leb none h gone, le-ltb h end after, le-leb long h past, le-ltb h none gone, le-ltb h long past) refl
      ]
    ]
  ]
]

-- granules that were marked: rows end in front of them, and each of them counts its row up to a place
pub record MarkedTo (old new : List ℕ) (first end to : ℕ) : Type 0 where
  pub before : (h : ℕ) → h < first → slice_index new h ≡ min (slice_index old h) (16 * (first - h))
  pub inside : (h : ℕ) → first ≤ h → h < end → slice_index new h ≡ min (to - 16 * h) 255
  pub after : (h : ℕ) → first ≤ h → end ≤ h → slice_index new h ≡ slice_index old h

pub counts_marked : (old cut new : List ℕ) (first end to : ℕ)
    → Recounts (λ h. nat_lt h first) (λ h. min (slice_index old h) (16 * (first - h))) old cut
    → Recounts (is_within first end) (λ h. min (to - 16 * h) 255) cut new → MarkedTo old new first end to
counts_marked old cut new first end to first_cut then_counted = record {
  before = λ h low. then_counted h ∙ rw (lt-leb first h low) (first_cut h ∙ rw (lt-ltb h first low) refl);
  inside = λ h low high. then_counted h ∙ rw (le-leb first h low, lt-ltb h end high) refl;
  after = λ h low past. then_counted h ∙ rw (le-leb first h low, le-ltb h end past) (first_cut h ∙ rw (le-ltb h first low) refl);
}

-- granules that were marked show zeros up to the place, and the others what they showed
pub marked_shows : (bytes zeroed old new : List ℕ) (first end to : ℕ) → MarkedTo old new first end to
    → Changes (is_within (16 * first) to) (λ _. Some 0) (slice_get bytes) (slice_get zeroed) → to ≤ 16 * end
    → Fills first end (zero_to to) (λ j. if nat_lt (j % 16) (slice_index old (j / 16)) then slice_get bytes j else None) (λ j. if nat_lt (j % 16) (slice_index new (j / 16)) then slice_get zeroed j else None)
marked_shows bytes zeroed old new first end to marked zero few = λ j. elim (cases_lt (j / 16) first) [
  | inl before ↦
      let here = marked.before (j / 16) before in
      let same : nat_lt (j % 16) (slice_index new (j / 16)) ≡ nat_lt (j % 16) (slice_index old (j / 16)) = elim (cases_lt (j % 16) (slice_index old (j / 16))) [
        | inl lt ↦ rw (lt-ltb _ _ lt) (lt-ltb _ _ (omega (arith, lt, here, before)))
        | inr le ↦ rw (le-ltb _ _ le) (le-ltb _ _ (omega (arith, le, here)))
      ] in
      rw (same, zero j, lt-leb first (j / 16) before, lt-leb (16 * first) j (omega (arith, before))) refl
  | inr from ↦ elim (cases_lt (j / 16) end) [
    | inl inside ↦
        let here = marked.inside (j / 16) from inside in
        elim (cases_lt j to) [
          | inl lt ↦
              rw (zero j, le-leb first (j / 16) from, lt-ltb (j / 16) end inside, le-leb (16 * first) j (omega (arith, from)), lt-ltb j to lt, lt-ltb (j % 16) (slice_index new (j / 16)) (omega (arith, lt, here))) refl
          | inr le ↦ rw (le-leb first (j / 16) from, lt-ltb (j / 16) end inside, le-ltb j to le, le-ltb (j % 16) (slice_index new (j / 16)) (omega (arith, le, here))) refl
        ]
    | inr past ↦
        let here = marked.after (j / 16) from past in
        rw (here, zero j, le-leb first (j / 16) from, le-ltb (j / 16) end past, le-leb (16 * first) j (omega (arith, from)), le-ltb j to (omega (arith, past, few))) refl
  ]
]

-- bytes are present where the row from the first granule on comes to the last one, and that counts the last byte
pub has_by_reach : (frame : Frame) (from to : ℕ) → to ≤ length frame.bytes → from < to → (to - 1) / 16 - from / 16 ≤ slice_index frame.counts (from / 16) / 16
    → (to - 1) % 16 < slice_index frame.counts ((to - 1) / 16) → HasAll (frame_byte frame) from to
has_by_reach frame from to within some holds counted =
    has_all frame from to within some
    (λ j low high.
    let place : from / 16 + (j - from / 16) ≡ j = omega (arith, low) in
    let follows = frame.reached.0 (from / 16) (j - from / 16) (omega (arith, holds, low, high)) in
    rw place at follows)
    counted

-- few bytes are present where the row from the first granule on has the next one too
pub has_near : (frame : Frame) (from to : ℕ) → to ≤ length frame.bytes → from < to → to - from ≤ 16 → 32 ≤ slice_index frame.counts (from / 16)
    → HasAll (frame_byte frame) from to
has_near frame from to within some near counted =
    let row : (j : ℕ) → from / 16 ≤ j → j ≤ (to - 1) / 16 → 16 ≤ slice_index frame.counts j
    = λ j low high.
    let place : from / 16 + (j - from / 16) ≡ j = omega (arith, low) in
    let follows = frame.reached.0 (from / 16) (j - from / 16) (omega (arith, low, high, near, counted)) in
    rw place at follows in
    let last = row ((to - 1) / 16) (omega (arith, some)) (omega arith) in
    has_all frame from to within some (λ j low high. row j low (omega (arith, high))) (omega (arith, last))

-- few bytes of a granule whose row has the next one too are on the page
pub near_fits : (frame : Frame) (from n : ℕ) → length frame.counts ≡ 256 → n ≤ 16 → 32 ≤ slice_index frame.counts (from / 16) → from + n ≤ 4096
near_fits frame from n whole near counted = elim (cases_lt (from / 16 + 1) 256) [
  | inl within ↦ omega (arith, within, near)
  | inr past ↦
      let full = frame.reached.0 (from / 16) 1 (omega (arith, counted)) in
      let none = index_past frame.counts (from / 16 + 1) (omega (arith, past, whole)) in
      absurd (omega (arith, full, none))
]

pub near_all : (frame : Frame) (from n : ℕ) → (length frame.bytes ≡ 4096) × (length frame.counts ≡ 256) → n ≤ 16 → 32 ≤ slice_index frame.counts (from / 16) → HasAll (frame_byte frame) from (from + n)
near_all frame from n whole near counted = λ k low high.
    let fits = near_fits frame from n whole.1 near counted in
    has_near frame from (from + n) (omega (arith, fits, whole.0)) (omega (arith, low, high)) (omega (arith, near)) counted k low high

-- bytes are present where the first row says so
pub row_all : (frame : Frame) (from to : ℕ) → to ≤ length frame.bytes → from < to
    → is_row frame.counts from to ≡ true → HasAll (frame_byte frame) from to
row_all frame from to within some row = elim (cases_lt (slice_index frame.counts (from / 16) / 16) ((to - 1) / 16 - from / 16)) [
  | inl short ↦ absurd (false≢true (rw (lt-leb _ _ short) at row))
  | inr holds ↦
      let counted = rw (le-leb _ _ holds) at row in
      has_by_reach frame from to within some holds (ltb-true _ _ counted)
]

-- and of two granules it says so where they are
pub row_gap : (frame : Frame) (from to : ℕ) → from < to → to - from ≤ 16 → HasAll (frame_byte frame) from to → is_row frame.counts from to ≡ true
row_gap frame from to some few all =
    let counted = has_last frame from to some all in
    let holds : (to - 1) / 16 - from / 16 ≤ slice_index frame.counts (from / 16) / 16 = elim (cases_lt (from / 16) ((to - 1) / 16)) [
      | inr one ↦ omega (arith, one)
      | inl two ↦ elim (cases_lt (slice_index frame.counts (from / 16)) 16) [
        | inl short ↦ absurd (false≢true (has_short frame from to (from / 16) (omega arith) two short all))
        | inr full ↦ omega (arith, few, full)
      ]
    ] in
    rw (le-leb _ _ holds, lt-ltb _ _ counted) refl
