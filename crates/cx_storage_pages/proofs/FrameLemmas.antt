-- What a frame has.
use Rattle.std.proofs.Common.{[], ◌∷◌, Option, Some, None, List, max, ◌≢◌, ◌≡◌, ℕ, zero, suc, ◌+◌, ◌-◌, ◌*◌, ◌/◌, ◌%◌, ◌<◌, ◌≤◌, min, true, false, refl, arith, inl, inr, replicate, length, slice_index, slice_get, is_some, lt-ltb, le-ltb, ◌⊎◌}
use Rattle.std.proofs.lemmas.Bool.{cases_lt, le-leb, lt-leb}
use Rattle.std.proofs.lemmas.Option.{slice_get-get_or}
use Rattle.cx_storage_pages.specs.Parts.Change.{is_within}
use Rattle.cx_storage_pages.specs.Parts.Frame.{HasAll, Skips}
use Rattle.cx_storage_pages.specs.Pages.{frame_byte}
use Rattle.cx_storage_pages.specs.Parts.Runs.{AllFree, IsRunsTo, IsRuns}
use Rattle.cx_storage_pages.specs.declared.frame.Frame.{Frame}

pub zero_index : (n k : ℕ) → slice_index (replicate {A = ℕ} n 0) k ≡ 0
zero_index zero k = refl
zero_index (suc n) zero = refl
zero_index (suc n) (suc k) = zero_index n k

pub index_past : (counts : List ℕ) (k : ℕ) → length counts ≤ k → slice_index counts k ≡ 0
index_past [] k h = refl
index_past (n ∷ ns) zero h = absurd (omega arith)
index_past (n ∷ ns) (suc k) h = index_past ns k (omega arith)

-- the places of a range that was gone over to its end
pub range_end : (from to k j : ℕ) → to ≤ k → (k ≤ to) ⊎ (k ≤ from) → is_within from k j ≡ is_within from to j
range_end from to k j past end = elim (cases_lt j from) [
  | inl before ↦ rw (lt-leb from j before) refl
  | inr low ↦ elim end [
    | inl done ↦ let same : k ≡ to = omega (arith, past, done) in rw same refl
    | inr none ↦ rw (le-leb from j low, le-ltb j k (omega (arith, none, low)), le-ltb j to (omega (arith, none, past, low))) refl
  ]
]

-- a place is present exactly where its granule counts it
pub seen_some : (frame : Frame) (k : ℕ) → k < length frame.bytes → k % 16 < slice_index frame.counts (k / 16) → is_some (frame_byte frame k) ≡ true
unfolding frame_byte
seen_some frame k l h = rw (lt-ltb _ _ h, slice_get-get_or frame.bytes k 0 l) refl

pub seen_counted : (frame : Frame) (k : ℕ) → is_some (frame_byte frame k) ≡ true → k % 16 < slice_index frame.counts (k / 16)
unfolding frame_byte
seen_counted frame k h = elim (cases_lt (k % 16) (slice_index frame.counts (k / 16))) [
  | inl lt ↦ lt
  | inr ge ↦ let gone = rw (le-ltb _ _ ge) at h in cc
]

pub seen_byte : (frame : Frame) (k : ℕ) → is_some (frame_byte frame k) ≡ true → frame_byte frame k ≡ slice_get frame.bytes k
unfolding frame_byte
seen_byte frame k h = let lt = seen_counted frame k h in rw (lt-ltb _ _ lt) refl

-- a granule has a byte exactly where its first one is counted
pub granule_taken : (frame : Frame) (g : ℕ) → length frame.bytes ≡ 4096 → length frame.counts ≡ 256 → 0 < slice_index frame.counts g → is_some (frame_byte frame (g * 16)) ≡ true
granule_taken frame g whole all some = elim (cases_lt g 256) [
  | inl within ↦
      let place : g * 16 / 16 ≡ g = omega arith in
      let front : g * 16 % 16 ≡ 0 = omega arith in
      seen_some frame (g * 16) (omega (arith, whole, within)) (rw (place, front) some)
  | inr past ↦ let none = index_past frame.counts g (omega (arith, all, past)) in absurd (omega (arith, none, some))
]

pub granule_free : (frame : Frame) (g : ℕ) → slice_index frame.counts g ≡ 0 → frame_byte frame (g * 16) ≡ None
unfolding frame_byte
granule_free frame g none =
    let place : g * 16 / 16 ≡ g = omega arith in
    rw (place, none, le-ltb (g * 16 % 16) 0 (omega arith)) refl

-- bytes are present where all granules before the last are full, and the last counts the last byte
pub has_all : (frame : Frame) (from to : ℕ) → to ≤ length frame.bytes → from < to
    → ((j : ℕ) → from / 16 ≤ j → j < (to - 1) / 16 → 16 ≤ slice_index frame.counts j)
    → (to - 1) % 16 < slice_index frame.counts ((to - 1) / 16) → HasAll (frame_byte frame) from to
has_all frame from to within some full counted = λ k low high. elim (cases_lt (k / 16) ((to - 1) / 16)) [
  | inl before ↦ let all = full (k / 16) (omega (arith, low)) before in seen_some frame k (omega (arith, within, high)) (omega (arith, all))
  | inr beyond ↦
      let same : k / 16 ≡ (to - 1) / 16 = omega (arith, beyond, high) in
      let le : k % 16 ≤ (to - 1) % 16 = omega (arith, same, high) in
      seen_some frame k (omega (arith, within, high)) (rw same (omega (arith, le, counted)))
]

pub has_short : (frame : Frame) (from to g : ℕ) → from / 16 ≤ g → g < (to - 1) / 16 → slice_index frame.counts g < 16
    → HasAll (frame_byte frame) from to → false ≡ true
has_short frame from to g low high short all =
    let place : (g * 16 + 15) / 16 ≡ g = omega arith in
    let last : (g * 16 + 15) % 16 ≡ 15 = omega arith in
    let lt : (g * 16 + 15) % 16 < slice_index frame.counts g = rw place at (seen_counted frame (g * 16 + 15) (all (g * 16 + 15) (omega (arith, low)) (omega (arith, high)))) in
    absurd (omega (arith, lt, last, short))

pub has_last : (frame : Frame) (from to : ℕ) → from < to → HasAll (frame_byte frame) from to → (to - 1) % 16 < slice_index frame.counts ((to - 1) / 16)
has_last frame from to some all = seen_counted frame (to - 1) (all (to - 1) (omega (arith, some)) (omega (arith, some)))

-- the runs of free granules, one granule more
pub runs_free : (counts : List ℕ) (m longest tail more : ℕ) → IsRunsTo counts m longest tail → slice_index counts m ≡ 0 → more ≡ max longest (tail + 1) → IsRunsTo counts (m + 1) more (tail + 1)
runs_free counts m longest tail more runs none is = record {
  bound = λ k n within all. elim (cases_lt m (k + n)) [
    | inr le ↦ let short = runs.bound k n le all in omega (arith, short, is)
    | inl last ↦ elim (cases_lt m k) [
      | inl past ↦ omega (arith, within, past)
      | inr low ↦
          let beyond = runs.most k low (λ j from to. all j from (omega (arith, to, last))) in
          omega (arith, beyond, within, is)
    ]
  ];
  order = omega (arith, is);
  within = omega (arith, runs.within);
  short = let short = runs.short in let within = runs.within in omega (arith, is, short, within);
  free = λ j low high. elim (cases_lt j m) [
    | inl before ↦ runs.free j (omega (arith, low, runs.within)) before
    | inr here ↦ let same : j ≡ m = omega arith in rw same none
  ];
  most = λ k within all. elim (cases_lt m k) [
    | inl past ↦ omega (arith, past)
    | inr low ↦
        let beyond = runs.most k low (λ j from to. all j from (omega (arith, to))) in
        omega (arith, beyond)
  ];
}

pub runs_taken : (counts : List ℕ) (m longest tail : ℕ) → IsRunsTo counts m longest tail → (slice_index counts m ≢ 0) → IsRunsTo counts (m + 1) longest 0
runs_taken counts m longest tail runs taken = record {
  bound = λ k n within all. elim (cases_lt m (k + n)) [
    | inr le ↦ runs.bound k n le all
    | inl last ↦ elim (cases_lt m k) [
      | inl past ↦ omega (arith, within, past)
      | inr low ↦ absurd (taken (all m low last))
    ]
  ];
  order = omega arith;
  within = omega arith;
  short = let short = runs.short in omega (arith, short);
  free = λ j low high. absurd (omega arith);
  most = λ k within all. elim (cases_lt m k) [
    | inl past ↦ omega (arith, past)
    | inr low ↦ absurd (taken (all m low (omega arith)))
  ];
}

zero_count : (frame : Frame) (j : ℕ) → length frame.bytes ≡ 4096 → j < 256 → frame_byte frame (j * 16) ≡ None → slice_index frame.counts j ≡ 0
zero_count frame j whole within gone = elim (cases_lt 0 (slice_index frame.counts j)) [
  | inr none ↦ omega (arith, none)
  | inl some ↦
      let place : j * 16 / 16 ≡ j = omega arith in
      let front : j * 16 % 16 ≡ 0 = omega arith in
      let here = seen_some frame (j * 16) (omega (arith, whole, within)) (rw (place, front) some) in
      absurd (none-not-some (frame_byte frame (j * 16)) here gone)
]
  where
    none-not-some : (o : Option ℕ) → is_some o ≡ true → o ≡ None → ⊥
    none-not-some None e g = cc
    none-not-some (Some x) e g = cc

-- what the runs of a frame say of its places
pub runs_skip : (frame : Frame) (need longest tail : ℕ) → length frame.bytes ≡ 4096 → IsRuns frame.counts longest tail → longest < need → Skips (frame_byte frame) need tail
unfolding frame_byte
runs_skip frame need longest tail whole runs small = record {
  within = runs.within;
  small = omega (arith, small, runs.order);
  free = λ k beyond high.
      let none = runs.free (k / 16) (omega (arith, beyond)) (omega (arith, high)) in
      rw (none, le-ltb (k % 16) 0 (omega arith)) refl;
  none = λ c within all.
      let counted : AllFree frame.counts c (min (c + need) 256) = λ j low high. zero_count frame j whole (omega (arith, high)) (all j low (omega (arith, high)) (omega (arith, high))) in
      elim (cases_lt 256 (c + need)) [
        | inl past ↦
            let whole : AllFree frame.counts c 256 = λ j low high. counted j low (omega (arith, high, past)) in
            runs.most c within whole
        | inr fits ↦
            let run : AllFree frame.counts c (c + need) = λ j low high. counted j low (omega (arith, high, fits)) in
            let short = runs.bound c need fits run in
            absurd (omega (arith, short, small))
      ];
}
