-- The laws of words and halfwords.
use Rattle.std.specs.Int.{w16, w32, to_be_bytes, from_be_bytes}
use Rattle.std.specs.Prelude.{◌≡◌, ℕ, ◌<◌, true, ◌∷◌, Some, is_some, ◌^◌, []}
use Rattle.cx_storage.specs.Storage.{Storage, IsSoundStorage, span, after_write}
use Rattle.cx_storage.specs.Word.{word_at, halfword_at}
use Rattle.byteorder.specs.Endian.{big_number}

-- the bytes of a word and a halfword, written, read as its number; the first byte is the highest
pub record WordAfterWrite : Type 0 where
  pub word : (s : Storage) (a v : ℕ) → a < 2 ^ 24 → v < 2 ^ 32 → is_some (span s a 4) ≡ true
      → word_at (after_write s a (to_be_bytes w32 v)) a ≡ Some v
  pub halfword : (s : Storage) (a v : ℕ) → a < 2 ^ 24 → v < 2 ^ 16 → is_some (span s a 2) ≡ true
      → halfword_at (after_write s a (to_be_bytes w16 v)) a ≡ Some v
  pub fits : (s : Storage) (a v : ℕ) → IsSoundStorage s → word_at s a ≡ Some v → v < 2 ^ 32
  pub halfword_fits : (s : Storage) (a v : ℕ) → IsSoundStorage s → halfword_at s a ≡ Some v → v < 2 ^ 16
  pub word_number : (b0 b1 b2 b3 : ℕ)
      → big_number 4 (b0 ∷ b1 ∷ b2 ∷ b3 ∷ []) ≡ from_be_bytes w32 (b0 ∷ b1 ∷ b2 ∷ b3 ∷ [])
  pub halfword_number : (b0 b1 : ℕ) → big_number 2 (b0 ∷ b1 ∷ []) ≡ from_be_bytes w16 (b0 ∷ b1 ∷ [])
