-- What holds of a fit image, and what is known by the fault of one that isn't.
use Rattle.std.proofs.Common.{◌≡◌, ◌<◌, ◌≤◌, Bool, true, false, Option, Some, None, length, refl, List, [], ◌∷◌}
use Rattle.std.specs.Prelude.{◌≢◌, find, not, nat_le, option_map, ◌&&◌}
use Rattle.std.proofs.lemmas.Bool.{and_from, le-leb, leb-true, lt-ltb, ltb-true}
use Rattle.cx_code.specs.declared.image.Image.{Image}
use Rattle.cx_load.specs.declared.fault.ImageFault.{ImageFault}
use Rattle.cx_load.specs.declared.fault.ImageFault.TheVariants.{BadLength, EntryOutside, RelocOutside, Overlap, StgLength}
use Rattle.cx_load.specs.Fault.{has_length, has_entry, are_inside, all_apart, has_stg_length, IsFit, image_fault}
use Rattle.cx_load.specs.Laws.Fit.{FitFacts}

both : (a b : Bool) → (a && b) ≡ true → (a ≡ true) × (b ≡ true)
both true b e = (refl, e)
both false b e = absurd (cc)

length_bounds : (image : Image) → has_length image ≡ true → (1 ≤ length image.text) × (length image.text ≤ 65536)
unfolding has_length
length_bounds image e =
    let parts = both (nat_le 1 (length image.text)) (nat_le (length image.text) 65536) e in
    (leb-true _ _ parts.0, leb-true _ _ parts.1)

entry_bound : (image : Image) → has_entry image ≡ true → image.entry < length image.text
unfolding has_entry
entry_bound image e = ltb-true _ _ e

stg_bounds : (image : Image) → has_stg_length image ≡ true → (80 ≤ image.stg_len) × (image.stg_len ≤ 65520)
unfolding has_stg_length
stg_bounds image e =
    let parts = both (nat_le 80 image.stg_len) (nat_le image.stg_len 65520) e in
    (leb-true _ _ parts.0, leb-true _ _ parts.1)

-- the first of five faults whose test fails
abbrev first_of : Bool → Bool → Bool → Bool → Bool → Option ImageFault
first_of a b c d e =
    let rows : List (ImageFault × Bool) =
    (BadLength, not a) ∷ (EntryOutside, not b) ∷ (RelocOutside, not c) ∷ (Overlap, not d) ∷ (StgLength, not e) ∷ [] in
    option_map (λ (row : ImageFault × Bool). row.0) (find (λ (row : ImageFault × Bool). row.1) rows)

record Passed (a b c d e : Bool) : Type 0 where
  pub first : a ≡ true
  pub second : b ≡ true
  pub third : c ≡ true
  pub fourth : d ≡ true
  pub fifth : e ≡ true

all_passed : (a b c d e : Bool) → first_of a b c d e ≡ None → Passed a b c d e
all_passed false b c d e q = absurd (cc)
all_passed true false c d e q = absurd (cc)
all_passed true true false d e q = absurd (cc)
all_passed true true true false e q = absurd (cc)
all_passed true true true true false q = absurd (cc)
all_passed true true true true true q = record { first = refl; second = refl; third = refl; fourth = refl; fifth = refl }

pub facts_of_fit : (image : Image) → IsFit image → FitFacts image
unfolding image_fault
facts_of_fit image fit =
    let passed = all_passed (has_length image) (has_entry image) (are_inside (length image.text) image.relocs) (all_apart image.relocs) (has_stg_length image) fit.none in
    let size = length_bounds image passed.first in
    let stg = stg_bounds image passed.fifth in
    record {
      nonempty = size.0;
      short = size.1;
      entry = entry_bound image passed.second;
      inside = passed.third;
      apart = passed.fourth;
      stg_low = stg.0;
      stg_high = stg.1;
    }

-- and an image of which that holds is fit
has_length_of : (image : Image) → FitFacts image → has_length image ≡ true
unfolding has_length
has_length_of image fit = and_from _ _ (le-leb 1 (length image.text) fit.nonempty) (le-leb (length image.text) 65536 fit.short)

has_entry_of : (image : Image) → FitFacts image → has_entry image ≡ true
unfolding has_entry
has_entry_of image fit = lt-ltb image.entry (length image.text) fit.entry

has_stg_of : (image : Image) → FitFacts image → has_stg_length image ≡ true
unfolding has_stg_length
has_stg_of image fit = and_from _ _ (le-leb 80 image.stg_len fit.stg_low) (le-leb image.stg_len 65520 fit.stg_high)

pub fit_of_facts : (image : Image) → FitFacts image → IsFit image
unfolding image_fault
fit_of_facts image fit = record { none = rw (has_length_of image fit, has_entry_of image fit, fit.inside, fit.apart, has_stg_of image fit) refl }

-- words that end in the text and share no byte are no fault
not_words : (a b e : Bool) (fault : ImageFault) → first_of a b true true e ≡ Some fault → (fault ≢ RelocOutside) × (fault ≢ Overlap)
not_words false b e fault q = (λ same. cc, λ same. cc)
not_words true false e fault q = (λ same. cc, λ same. cc)
not_words true true false fault q = (λ same. cc, λ same. cc)
not_words true true true fault q = absurd (cc)

pub words_not_at_fault : (image : Image) (fault : ImageFault) → are_inside (length image.text) image.relocs ≡ true → all_apart image.relocs ≡ true → image_fault image ≡ Some fault
    → (fault ≢ RelocOutside) × (fault ≢ Overlap)
unfolding image_fault
words_not_at_fault image fault inside apart is =
    not_words (has_length image) (has_entry image) (has_stg_length image) fault (rw (inside, apart) at is)

-- a text that is refused for its length has another one
not_length : (a b c d e : Bool) → first_of a b c d e ≡ Some BadLength → a ≡ false
not_length false b c d e q = refl
not_length true false c d e q = absurd (cc)
not_length true true false d e q = absurd (cc)
not_length true true true false e q = absurd (cc)
not_length true true true true false q = absurd (cc)
not_length true true true true true q = absurd (cc)

pub refused_length : (image : Image) → image_fault image ≡ Some BadLength → has_length image ≡ false
unfolding image_fault
refused_length image is = not_length (has_length image) (has_entry image) (are_inside (length image.text) image.relocs) (all_apart image.relocs) (has_stg_length image) is
