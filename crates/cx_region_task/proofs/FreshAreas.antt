-- A fresh area: its bytes are zero, and the others stay.
use Rattle.std.proofs.Common.{◌≡◌, ◌<◌, ◌≤◌, ◌+◌, ◌^◌, ℕ, zero, suc, List, [], ◌∷◌, length, replicate, Option, Some, None, is_some, unwrap_or, true, refl, sym, ap, ◌∙◌, inl, inr, arith}
use Rattle.std.specs.List.{AllByRecursion}
use Rattle.std.specs.Option.{option_map_or}
use Rattle.std.proofs.lemmas.Bool.{cases_eq, cases_lt, false≢true}
use Rattle.std.proofs.lemmas.List.{length-replicate}
use Rattle.cx_storage.specs.Address.{address_after, distance}
use Rattle.cx_storage.specs.Place.{CanPlace, IsLeastPlace, Misses}
use Rattle.cx_storage.specs.Storage.{Storage, IsSoundStorage, area_from, byte_at, span, with_area, with_byte, with_bytes}
use Rattle.cx_storage.specs.declared.areas.Owner.{Owner}
use Rattle.cx_storage.specs.Facts.Areas.{byte_after_get, same_storage}
use Rattle.cx_storage.specs.Facts.Sound.{covers_cases, covers_from, sound_with_area, sound_with_byte}
use Rattle.cx_storage.specs.Facts.Spans.{span_at, span_from, span_has, span_inside, span_length}
use Rattle.cx_storage.specs.Facts.Writes.{areas_after_set, byte_after_set, byte_after_set_elsewhere, written_whole}
use Rattle.cx_region_state.specs.Inputs.{piece_bytes}
use Rattle.cx_region_state.specs.declared.verdict.Copying.{Copying}
use Rattle.cx_region_state.specs.declared.verdict.NewLevel.{NewLevel}
use Rattle.cx_region_state.specs.Areas.{IsTaskPlace, bytes_in, first_of_tasks, last_of_tasks, system_owner, with_cap, with_copied, with_copy_area, with_filled, with_stg_area}
use Rattle.cx_region_state.specs.Parts.Fits.{FitsCopy, FitsLevel}
use Rattle.cx_region_task.specs.Changes.{with_replacement}
use Rattle.cx_region_task.specs.Parts.Making.{AreBlocksApart, MatchCopy}

-- ---- no byte where an area may be placed
misses_absent : (s : Storage) (len b x : ℕ) → AllByRecursion (Misses len b) s → b ≤ x → x < b + len → byte_at s x ≡ None
unfolding byte_at
misses_absent [] len b x all low high = refl
misses_absent (h ∷ hs) len b x all low high = elim (covers_cases h.area x) [
  | inl c ↦ absurd (elim all.0 [ inl p ↦ omega (arith, p, c.2) | inr p ↦ omega (arith, p, c.1) ])
  | inr c ↦ rw c.0 (misses_absent hs len b x all.1 low high)
]

beside : (s : Storage) (len a x : ℕ) → IsTaskPlace s len (Some a) → is_some (byte_at s x) ≡ true → a ≤ x → x < a + len → ⊥
unfolding IsLeastPlace CanPlace
beside s len a x least there low high = let gone : byte_at s x ≡ None = misses_absent s len a x least.0.3 low high in false≢true (rw gone at there)

-- ---- a fresh area
fresh_byte : (s : Storage) (len a : ℕ) (owner : Owner) (x : ℕ) → IsTaskPlace s len (Some a) → a ≤ x → x < a + len → byte_at (with_area s (Some a) len owner) x ≡ Some 0
unfolding IsLeastPlace
fresh_byte s len a owner x least low high =
    byte_after_get s first_of_tasks last_of_tasks len a owner x least.0 ∙ rw (covers_from (area_from a len owner) x low high) refl

pub fresh_ends : (s : Storage) (len a : ℕ) → IsTaskPlace s len (Some a) → a + len ≤ 2 ^ 24
unfolding IsLeastPlace CanPlace
fresh_ends s len a least = omega (arith, least.0.2)

pub fresh_there : (s : Storage) (len a : ℕ) (owner : Owner) → IsTaskPlace s len (Some a) → is_some (span (with_area s (Some a) len owner) a len) ≡ true
fresh_there s len a owner least =
    span_inside (with_area s (Some a) len owner) a len (fresh_ends s len a least) (λ x low high. rw (fresh_byte s len a owner x least low high) refl)

-- a zero written where there is one changes nothing
same_byte : (s : Storage) (a : ℕ) → IsSoundStorage s → byte_at s a ≡ Some 0 → with_byte s a 0 ≡ s
same_byte s a ok there =
    same_storage (with_byte s a 0) s (sound_with_byte s a 0 ok (omega arith)) ok (areas_after_set s a 0)
    (λ x. elim (cases_eq x a) [
      | inl e ↦ rw e (byte_after_set s a 0 ∙ rw there refl)
      | inr ne ↦ byte_after_set_elsewhere s a 0 x ne
    ])

same_bytes : (s : Storage) (a n : ℕ) → IsSoundStorage s → a + n ≤ 2 ^ 24 → ((x : ℕ) → a ≤ x → x < a + n → byte_at s x ≡ Some 0) → with_bytes s a (replicate n 0) ≡ s
unfolding with_bytes
same_bytes s a zero ok ends each = refl
same_bytes s a (suc zero) ok ends each = same_byte s a ok (each a (omega arith) (omega arith))
same_bytes s a (suc (suc n)) ok ends each =
    let here : with_byte s a 0 ≡ s = same_byte s a ok (each a (omega arith) (omega arith)) in
    let next : address_after a 1 ≡ a + 1 = omega (arith, ends) in
    let rest = same_bytes s (a + 1) (suc n) ok (omega (arith, ends)) (λ x low high. each x (omega (arith, low)) (omega (arith, high))) in
    ap (λ (t : Storage). with_bytes t (address_after a 1) (replicate (suc n) 0)) here ∙ ap (λ (b : ℕ). with_bytes s b (replicate (suc n) 0)) next ∙ rest

-- so its bytes are zero
pub fresh_zeros : (s : Storage) (len a : ℕ) (owner : Owner) → IsSoundStorage s → 0 < len → IsTaskPlace s len (Some a)
    → with_area s (Some a) len owner ≡ with_filled s a len owner (replicate len 0)
unfolding with_filled
fresh_zeros s len a owner ok some least =
    let t : Storage = with_area s (Some a) len owner in
    let there : is_some (span t a (length {A = ℕ} (replicate len 0))) ≡ true = rw (length-replicate {A = ℕ} len 0) (fresh_there s len a owner least) in
    let sound : IsSoundStorage t = sound_with_area s first_of_tasks last_of_tasks len (Some a) owner ok (omega arith) some least in
    sym (written_whole t a (replicate len 0) there ∙ same_bytes t a len sound (fresh_ends s len a least) (λ x low high. fresh_byte s len a owner x least low high))

-- ---- bytes beside a fresh area
kept_byte : (s : Storage) (len a : ℕ) (owner : Owner) (x : ℕ) → IsTaskPlace s len (Some a) → is_some (byte_at s x) ≡ true → byte_at (with_area s (Some a) len owner) x ≡ byte_at s x
unfolding IsLeastPlace
kept_byte s len a owner x least there = byte_after_get s first_of_tasks last_of_tasks len a owner x least.0 ∙ elim (covers_cases (area_from a len owner) x) [
  | inl c ↦ absurd (beside s len a x least there c.1 c.2)
  | inr c ↦ rw c.0 refl
]

kept_span : (s : Storage) (len a : ℕ) (owner : Owner) (b n : ℕ) → b < 2 ^ 24 → IsTaskPlace s len (Some a) → is_some (span s b n) ≡ true
    → span (with_area s (Some a) len owner) b n ≡ span s b n
kept_span s len a owner b n low least there = go (span s b n) refl there
  where
    go : (read : Option (List ℕ)) → span s b n ≡ read → is_some read ≡ true → span (with_area s (Some a) len owner) b n ≡ read
    go None is have = absurd (cc)
    go (Some bytes) is have =
        span_from (with_area s (Some a) len owner) b n bytes low (span_length s b n bytes is) (λ k h.
        let at = span_at s b n bytes k low is h in
        kept_byte s len a owner (address_after b k) least (rw at refl) ∙ at)

apart_from_fresh : (s : Storage) (from len a : ℕ) → from < 2 ^ 24 → is_some (span s from len) ≡ true → IsTaskPlace s len (Some a) → AreBlocksApart from a len
apart_from_fresh s from len a low there least = λ k h.
    let x = address_after from k in
    let ends : a + len ≤ 2 ^ 24 = fresh_ends s len a least in
    elim (cases_lt (distance a x) len) [
      | inr far ↦ far
      | inl near ↦ absurd (beside s len a x least (span_has s from len k low there h) (omega (arith, near, ends)) (omega (arith, near, ends)))
    ]

-- ---- a copy in its fresh area, beside the fresh area of a level
kept_source : (s : Storage) (slot : ℕ) (copying : Copying) (level : NewLevel) → FitsCopy (Some copying) s → FitsLevel (with_copy_area s slot (Some copying)) level
    → piece_bytes (with_stg_area (with_copy_area s slot (Some copying)) slot level) copying.from ≡ piece_bytes s copying.from
unfolding with_copy_area
kept_source s slot copying level fits level_fits =
    let from = copying.from in
    let t : Storage = with_area s (Some copying.to) from.len (system_owner slot) in
    let first : span t from.place from.len ≡ span s from.place from.len = kept_span s from.len copying.to (system_owner slot) from.place from.len fits.there.below fits.place fits.there.bytes in
    kept_span t level.loaded.stg_len level.stg (system_owner slot) from.place from.len fits.there.below level_fits.place (rw first fits.there.bytes) ∙ first

pub copyable : (s : Storage) (slot : ℕ) (copying : Option Copying) (level : NewLevel) → FitsCopy copying s → FitsLevel (with_copy_area s slot copying) level
    → MatchCopy copying (with_stg_area (with_copy_area s slot copying) slot level)
unfolding with_copy_area
copyable s slot None level fits level_fits = tt
copyable s slot (Some copying) level fits level_fits =
    let from = copying.from in
    let t : Storage = with_area s (Some copying.to) from.len (system_owner slot) in
    let made = fresh_there s from.len copying.to (system_owner slot) fits.place in
    let ends = fresh_ends s from.len copying.to fits.place in
    record {
      from = fits.there.below;
      below = ends;
      source = rw (kept_source s slot copying level fits level_fits) fits.there.bytes;
      there = rw (kept_span t level.loaded.stg_len level.stg (system_owner slot) copying.to from.len (omega (arith, ends, fits.some)) level_fits.place made) made;
      apart = apart_from_fresh s from.place from.len copying.to fits.there.below fits.there.bytes fits.place;
    }

copied_same : (s : Storage) (slot : ℕ) (copying : Option Copying) (level : NewLevel) → FitsCopy copying s → FitsLevel (with_copy_area s slot copying) level
    → option_map_or (λ it. bytes_in (with_stg_area (with_copy_area s slot copying) slot level) it.from) copying [] ≡ option_map_or (λ it. bytes_in s it.from) copying []
copied_same s slot None level fits level_fits = refl
copied_same s slot (Some copying) level fits level_fits = ap (λ (read : Option (List ℕ)). unwrap_or read []) (kept_source s slot copying level fits level_fits)

pub replaced : (s t : Storage) (slot : ℕ) (copying : Option Copying) (level : NewLevel) → FitsCopy copying s → FitsLevel (with_copy_area s slot copying) level
    → t ≡ with_stg_area (with_copy_area s slot copying) slot level
    → with_cap (with_copied t copying (option_map_or (λ it. bytes_in t it.from) copying [])) level ≡ with_replacement s slot copying level
unfolding with_replacement
replaced s t slot copying level fits level_fits is = rw is (rw (copied_same s slot copying level fits level_fits) refl)
