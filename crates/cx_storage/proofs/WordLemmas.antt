-- Words and halfwords: what they read after they were written, and that they fit.
use Rattle.std.proofs.Common.{refl, ap, arith, []}
use Rattle.std.specs.Int.{w16, w32, to_be_bytes, from_be_bytes}
use Rattle.std.specs.List.{AllByRecursion}
use Rattle.std.specs.Option.{option_map}
use Rattle.std.specs.Prelude.{◌≡◌, ℕ, ◌<◌, true, List, ◌∷◌, length, Option, Some, None, is_some, ◌^◌, []}
use Rattle.cx_storage.specs.Facts.Sound.{span_small}
use Rattle.cx_storage.specs.Facts.Spans.{span_length}
use Rattle.cx_storage.specs.Facts.Writes.{span_after_write}
use Rattle.cx_storage.specs.Storage.{Storage, IsSoundStorage, span, after_write}
use Rattle.cx_storage.specs.Word.{word_at, halfword_at}
use Rattle.byteorder.specs.Endian.{big_number}

-- the number of the bytes is what a program's `from_be_bytes` reads, and its bytes are what `to_be_bytes` writes
pub word_number : (b0 b1 b2 b3 : ℕ) → big_number 4 (b0 ∷ b1 ∷ b2 ∷ b3 ∷ []) ≡ from_be_bytes w32 (b0 ∷ b1 ∷ b2 ∷ b3 ∷ [])
word_number b0 b1 b2 b3 = omega arith

pub halfword_number : (b0 b1 : ℕ) → big_number 2 (b0 ∷ b1 ∷ []) ≡ from_be_bytes w16 (b0 ∷ b1 ∷ [])
halfword_number b0 b1 = omega arith

pub number_of_word : (v : ℕ) → v < 2 ^ 32 → big_number 4 (to_be_bytes w32 v) ≡ v
number_of_word v h = omega arith

pub number_of_halfword : (v : ℕ) → v < 2 ^ 16 → big_number 2 (to_be_bytes w16 v) ≡ v
number_of_halfword v h = omega arith

pub word_after_write : (s : Storage) (a v : ℕ) → a < 2 ^ 24 → v < 2 ^ 32 → is_some (span s a 4) ≡ true → word_at (after_write s a (to_be_bytes w32 v)) a ≡ Some v
unfolding word_at
word_after_write s a v la lv e = rw (span_after_write s a (to_be_bytes w32 v) la (omega arith) e) (ap Some (number_of_word v lv))

pub halfword_after_write : (s : Storage) (a v : ℕ) → a < 2 ^ 24 → v < 2 ^ 16 → is_some (span s a 2) ≡ true → halfword_at (after_write s a (to_be_bytes w16 v)) a ≡ Some v
unfolding halfword_at
halfword_after_write s a v la lv e = rw (span_after_write s a (to_be_bytes w16 v) la (omega arith) e) (ap Some (number_of_halfword v lv))

-- words of a sound storage fit 32 bits, and halfwords 16
word_fits : (bytes : List ℕ) → length bytes ≡ 4 → AllByRecursion (λ b. b < 256) bytes → big_number 4 bytes < 2 ^ 32
word_fits (b0 ∷ b1 ∷ b2 ∷ b3 ∷ []) e all = omega (arith, all.0, all.1.0, all.1.1.0, all.1.1.1.0)
word_fits [] e all = absurd (omega arith)
word_fits (b0 ∷ []) e all = absurd (omega arith)
word_fits (b0 ∷ b1 ∷ []) e all = absurd (omega arith)
word_fits (b0 ∷ b1 ∷ b2 ∷ []) e all = absurd (omega arith)
word_fits (b0 ∷ b1 ∷ b2 ∷ b3 ∷ b4 ∷ bs) e all = absurd (omega arith)

halfword_fits : (bytes : List ℕ) → length bytes ≡ 2 → AllByRecursion (λ b. b < 256) bytes → big_number 2 bytes < 2 ^ 16
halfword_fits (b0 ∷ b1 ∷ []) e all = omega (arith, all.0, all.1.0)
halfword_fits [] e all = absurd (omega arith)
halfword_fits (b0 ∷ []) e all = absurd (omega arith)
halfword_fits (b0 ∷ b1 ∷ b2 ∷ bs) e all = absurd (omega arith)

pub word_small : (s : Storage) (a v : ℕ) → IsSoundStorage s → word_at s a ≡ Some v → v < 2 ^ 32
unfolding word_at
word_small s a v ok e = go (span s a 4) (λ bytes f. word_fits bytes (span_length s a 4 bytes f) (span_small s a 4 bytes ok f)) e
  where
    go : (o : Option (List ℕ)) → ((bytes : List ℕ) → o ≡ Some bytes → big_number 4 bytes < 2 ^ 32) → option_map (big_number 4) o ≡ Some v → v < 2 ^ 32
    go None fits e = cc
    go (Some bytes) fits e = let same : big_number 4 bytes ≡ v = cc in rw (← same) (fits bytes refl)

pub halfword_small : (s : Storage) (a v : ℕ) → IsSoundStorage s → halfword_at s a ≡ Some v → v < 2 ^ 16
unfolding halfword_at
halfword_small s a v ok e = go (span s a 2) (λ bytes f. halfword_fits bytes (span_length s a 2 bytes f) (span_small s a 2 bytes ok f)) e
  where
    go : (o : Option (List ℕ)) → ((bytes : List ℕ) → o ≡ Some bytes → big_number 2 bytes < 2 ^ 16) → option_map (big_number 2) o ≡ Some v → v < 2 ^ 16
    go None fits e = cc
    go (Some bytes) fits e = let same : big_number 2 bytes ≡ v = cc in rw (← same) (fits bytes refl)
