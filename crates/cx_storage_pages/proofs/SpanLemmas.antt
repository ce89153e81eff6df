-- Spans of pages: what is read, tested and written piece by piece.
use Rattle.std.proofs.Common.{◌≡◌, ℕ, zero, suc, ◌+◌, ◌-◌, ◌%◌, ◌<◌, ◌≤◌, ◌^◌, true, false, refl, sym, ap, ◌∙◌, arith, inl, inr, replicate, List, [], ◌∷◌, length, slice_index, Option, Some, None, is_some, unwrap_or}
use Rattle.std.proofs.lemmas.Bool.{cases_Bool, cases_lt, lt-ltb, le-ltb, lt-leb, le-leb}
use Rattle.std.proofs.lemmas.Option.{slice_get-get_or}
use Rattle.std.proofs.lemmas.List.{get_or-replicate, length-replicate}
use Rattle.std.specs.Prelude.{IfSome, OnSome}
use Rattle.std.specs.List.{AllByRecursion}
use Rattle.cx_storage.specs.Address.{address_after, distance}
use Rattle.cx_storage.specs.Storage.{Storage, byte_at, span, with_byte, with_bytes, after_write, IsTogether, IsSoundStorage}
use Rattle.cx_storage.specs.Facts.Sound.{sound_with_byte, byte_beyond}
use Rattle.cx_storage.specs.Facts.Spans.{span_present, span_has, span_inside, span_from}
use Rattle.cx_storage.specs.Facts.Areas.{together_present}
use Rattle.cx_storage.specs.Facts.Writes.{written_whole, areas_after_write, byte_after_write, present_after_write}
use Rattle.cx_storage.specs.declared.areas.Area.{Area}
use Rattle.cx_storage_pages.specs.declared.page.Page.{Page}
use Rattle.cx_storage_pages.specs.Parts.Change.{Writes, HoldsBytes}
use Rattle.cx_storage_pages.specs.Parts.Frame.{HasAll}
use Rattle.cx_storage_pages.specs.Pages.{byte_in_pages, storage_of}
use Rattle.cx_storage_pages.specs.Parts.Shown.{IsShown}
use Rattle.cx_storage_pages.proofs.ShownLemmas.{Shows, shows, areas_shown, shown_sound, shown_aligned, shown_byte}

-- bytes that are present one after the other are a span that is
pub span_there : (areas : List Area) (pages : List Page) (a n : ℕ) → IsShown areas pages → a + n ≤ 2 ^ 24 → HasAll (byte_in_pages pages) a (a + n) → is_some (span (storage_of areas pages) a n) ≡ true
span_there areas pages a n shown fits all = span_inside (storage_of areas pages) a n fits (λ x low high. let here = shown_byte areas pages x shown in rw here at (all x low high))

pub span_all : (areas : List Area) (pages : List Page) (a n : ℕ) → IsShown areas pages → a < 2 ^ 24 → a + n ≤ 2 ^ 24 → is_some (span (storage_of areas pages) a n) ≡ true → HasAll (byte_in_pages pages) a (a + n)
span_all areas pages a n shown la fits e = λ x low high.
    let k : address_after a (x - a) ≡ x = omega arith in
    let has = span_has (storage_of areas pages) a n (x - a) la e (omega arith) in
    rw (shown_byte areas pages x shown) (rw k at has)

-- a span lent
pub part_span : (areas : List Area) (pages : List Page) (a n : ℕ) (bytes : List ℕ) → IsShown areas pages → a < 2 ^ 24 → a % 4096 + n ≤ 4096 → length bytes ≡ n
    → HoldsBytes (byte_in_pages pages) a n bytes → span (storage_of areas pages) a n ≡ Some bytes
part_span areas pages a n bytes shown la fits len each = span_from (storage_of areas pages) a n bytes la len (λ k h.
    let next : address_after a k ≡ a + k = omega arith in
    let back : a + k - a ≡ k = omega arith in
    let here = rw back at (each (a + k) (omega arith) (omega arith)) in
    rw next (sym (shown_byte areas pages (a + k) shown) ∙ here ∙ slice_get-get_or bytes k 0 (omega (arith, len))))

pub together_all : (areas : List Area) (pages : List Page) (a n : ℕ) → IsShown areas pages → a < 2 ^ 24 → IsTogether (storage_of areas pages) a n → (0 < n) × (a % 4096 + n ≤ 4096) × HasAll (byte_in_pages pages) a (a + n)
unfolding IsTogether
together_all areas pages a n shown la together =
    let whole = together_present (storage_of areas pages) a n (shown_sound areas pages shown) together in
    (whole.0, together.2, span_all areas pages a n shown la whole.1 whole.2)

-- a span without its first bytes, which are present
pub span_skip : (s : Storage) (a n k : ℕ) → a < 2 ^ 24 → k ≤ n → ((j : ℕ) → j < k → is_some (byte_at s (address_after a j)) ≡ true) → is_some (span s (address_after a k) (n - k)) ≡ is_some (span s a n)
span_skip s a n zero la le each =
    let same : address_after a 0 ≡ a = omega arith in
    let all : n - 0 ≡ n = omega arith in
    rw (same, all) refl
span_skip s a n (suc k) la le each =
    let first : address_after a 0 ≡ a = omega arith in
    let here : is_some (byte_at s a) ≡ true = rw first at (each 0 (omega arith)) in
    let next : address_after a (suc k) ≡ address_after (address_after a 1) k = omega arith in
    let less : n - suc k ≡ n - 1 - k = omega arith in
    let rest = span_skip s (address_after a 1) (n - 1) k (omega arith) (omega arith) (λ j h. let more : address_after (address_after a 1) j ≡ address_after a (suc j) = omega arith in rw more (each (suc j) (omega arith))) in
    rw (next, less) (rest ∙ sym (span_present s a n here (omega arith)))

pub skip_there : (areas : List Area) (pages : List Page) (a n k : ℕ) → IsShown areas pages → a < 2 ^ 24 → k ≤ n → a + k ≤ 2 ^ 24 → HasAll (byte_in_pages pages) a (a + k)
    → is_some (span (storage_of areas pages) (address_after a k) (n - k)) ≡ is_some (span (storage_of areas pages) a n)
skip_there areas pages a n k shown la le fits all = span_skip (storage_of areas pages) a n k la le (λ j h.
    let next : address_after a j ≡ a + j = omega arith in
    let here = shown_byte areas pages (a + j) shown in
    rw next (rw here at (all (a + j) (omega arith) (omega arith))))

-- one that begins with an absent byte isn't there
pub skip_gap : (areas : List Area) (pages : List Page) (a n k : ℕ) → IsShown areas pages → a < 2 ^ 24 → k ≤ n → a + k ≤ 2 ^ 24 → (HasAll (byte_in_pages pages) a (a + k) → ⊥) → is_some (span (storage_of areas pages) a n) ≡ false
skip_gap areas pages a n k shown la le fits gap = elim (cases_Bool (is_some (span (storage_of areas pages) a n))) [
  | inl e ↦ absurd (gap (λ x low high.
      let back : address_after a (x - a) ≡ x = omega arith in
      let has = span_has (storage_of areas pages) a n (x - a) la e (omega arith) in
      rw (shown_byte areas pages x shown) (rw back at has)))
  | inr e ↦ e
]

-- a buffer filled from a span that is there
present_byte : (o : Option ℕ) → is_some o ≡ true → o ≡ Some (unwrap_or o 0)
present_byte None e = cc
present_byte (Some v) e = refl

pub filled_span : (s : Storage) (a : ℕ) (buffer : List ℕ) → a < 2 ^ 24 → is_some (span s a (length buffer)) ≡ true
    → ((k : ℕ) → k < length buffer → slice_index buffer k ≡ unwrap_or (byte_at s (address_after a k)) 0) → span s a (length buffer) ≡ Some buffer
filled_span s a buffer la there each = span_from s a (length buffer) buffer la refl (λ k h.
    present_byte (byte_at s (address_after a k)) (span_has s a (length buffer) k la there h) ∙ ap Some (sym (each k h)))

-- a span of one page written at once
sound_with_bytes : (s : Storage) (a : ℕ) (bytes : List ℕ) → IsSoundStorage s → AllByRecursion (λ b. b < 256) bytes → IsSoundStorage (with_bytes s a bytes)
unfolding with_bytes
sound_with_bytes s a [] ok small = ok
sound_with_bytes s a (b ∷ bs) ok small = sound_with_bytes (with_byte s a b) (address_after a 1) bs (sound_with_byte s a b ok small.0) small.1

all_small : (bytes : List ℕ) → ((k : ℕ) → k < length bytes → slice_index bytes k < 256) → AllByRecursion (λ b. b < 256) bytes
all_small [] each = tt
all_small (b ∷ bs) each = (each 0 (omega arith), all_small bs (λ k h. each (suc k) (omega arith)))

write_bytes : (areas : List Area) (old new : List Page) (a : ℕ) (bytes : List ℕ) → IsShown areas old → a < 2 ^ 24 → a + length bytes ≤ 2 ^ 24 → is_some (span (storage_of areas old) a (length bytes)) ≡ true
    → Writes a bytes (byte_in_pages old) (byte_in_pages new) → (x : ℕ) → byte_in_pages new x ≡ byte_at (after_write (storage_of areas old) a bytes) x
write_bytes areas old new a bytes shown la fits present each x = each x ∙ elim (cases_lt x (2 ^ 24)) [
  | inl lx ↦
      let after = byte_after_write (storage_of areas old) a bytes x la lx (omega arith) present in
      elim (cases_lt x a) [
        | inl before ↦
            let far : length bytes ≤ distance a x = omega arith in
            rw (lt-leb a x before, shown_byte areas old x shown) (sym (after ∙ rw (le-ltb (distance a x) (length bytes) far) refl))
        | inr from ↦
            let near : distance a x ≡ x - a = omega arith in
            elim (cases_lt x (a + length bytes)) [
              | inl within ↦
                  rw (le-leb a x from, lt-ltb x (a + length bytes) within)
                  (slice_get-get_or bytes (x - a) 0 (omega arith) ∙ sym (after ∙ rw (near, lt-ltb (x - a) (length bytes) (omega arith)) refl))
              | inr past ↦
                  rw (le-leb a x from, le-ltb x (a + length bytes) past, shown_byte areas old x shown) (sym (after ∙ rw (near, le-ltb (x - a) (length bytes) (omega arith)) refl))
            ]
      ]
  | inr past ↦
      let gone = byte_beyond (storage_of areas old) x (shown_sound areas old shown) past in
      rw (le-leb a x (omega arith), le-ltb x (a + length bytes) (omega arith)) (shown_byte areas old x shown ∙ gone ∙ sym (beyond (storage_of areas old) a bytes x gone))
]
  where
    beyond : (s : Storage) (b : ℕ) (bs : List ℕ) (y : ℕ) → byte_at s y ≡ None → byte_at (after_write s b bs) y ≡ None
    beyond s b bs y e = go (byte_at (after_write s b bs) y) (present_after_write s b bs y ∙ rw e refl)
      where
        go : (o : Option ℕ) → is_some o ≡ false → o ≡ None
        go None f = refl
        go (Some v) f = cc

written_sound : (areas : List Area) (pages : List Page) (a : ℕ) (bytes : List ℕ) → IsShown areas pages → ((k : ℕ) → k < length bytes → slice_index bytes k < 256)
    → is_some (span (storage_of areas pages) a (length bytes)) ≡ true → IsSoundStorage (after_write (storage_of areas pages) a bytes)
written_sound areas pages a bytes shown small present =
    rw (written_whole (storage_of areas pages) a bytes present) (sound_with_bytes (storage_of areas pages) a bytes (shown_sound areas pages shown) (all_small bytes small))

pub write_shows : (areas : List Area) (old new : List Page) (a : ℕ) (bytes : List ℕ) → IsShown areas old → ((k : ℕ) → k < length bytes → slice_index bytes k < 256) → a < 2 ^ 24 → a + length bytes ≤ 2 ^ 24
    → is_some (span (storage_of areas old) a (length bytes)) ≡ true → Writes a bytes (byte_in_pages old) (byte_in_pages new) → Shows (after_write (storage_of areas old) a bytes) areas new
write_shows areas old new a bytes shown small la fits present each =
    shows (after_write (storage_of areas old) a bytes) areas new (written_sound areas old a bytes shown small present) (areas_after_write (storage_of areas old) a bytes ∙ areas_shown areas old)
    (shown_aligned areas old shown) (write_bytes areas old new a bytes shown la fits present each)

pub fill_shows : (areas : List Area) (old new : List Page) (a n value : ℕ) → IsShown areas old → value < 256 → a < 2 ^ 24 → a + n ≤ 2 ^ 24
    → is_some (span (storage_of areas old) a n) ≡ true → Writes a (replicate n value) (byte_in_pages old) (byte_in_pages new) → Shows (after_write (storage_of areas old) a (replicate n value)) areas new
fill_shows areas old new a n value shown small la fits present each =
    let long : length (replicate n value) ≡ n = length-replicate n value in
    write_shows areas old new a (replicate n value) shown (λ k h. rw (get_or-replicate n k value 0 (omega (arith, h, long))) small) la (omega (arith, fits, long)) (rw long present) each

-- what three facts of a value give
pub some_three : {X : Type 0} (r : Option X) (P Q R : X → Type 0) (T : Type 0) → ((x : X) → P x → Q x → T → R x) → IfSome r P → IfSome r Q → OnSome r T → IfSome r R
some_three None P Q R T step p q t = tt
some_three (Some x) P Q R T step p q t = step x p q t

pub no_span : (s : Storage) (a n : ℕ) → n ≡ 0 → is_some (span s a n) ≡ true
unfolding span
no_span s a n e = rw e refl
