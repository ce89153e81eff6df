-- Words of a list: what a store into one of them leaves, and the mark in a word's first byte.
use Rattle.std.proofs.Common.{◌≡◌, ℕ, zero, suc, ◌+◌, ◌*◌, ◌^◌, ◌<◌, ◌≤◌, ◌⊎◌, List, [], ◌∷◌, length, true, Option, Some, None, is_some, slice_index, refl, ◌∙◌, ap, inl, inr, arith}
use Rattle.std.proofs.lemmas.Bool.{le-ltb}
use Rattle.std.specs.Option.{option_map}
use Rattle.byteorder.specs.Endian.{big_number}
use Rattle.cx_storage.specs.Storage.{Storage, byte_at, span, after_write}
use Rattle.cx_storage.specs.Address.{address_after, distance}
use Rattle.cx_storage.specs.Word.{word_at}
use Rattle.cx_storage.specs.Facts.Spans.{span_at, span_from}
use Rattle.cx_storage.specs.Facts.Writes.{byte_after_write}
use Rattle.cx_asm_execution.specs.Stands.{list_length}

-- addresses before and after word k of a list are not among the four from its own on
far_from_word : (list k x : ℕ) → list < 2 ^ 24 → x < 2 ^ 24 → 4 * k + 4 ≤ list_length → (distance list x < 4 * k) ⊎ (4 * k + 4 ≤ distance list x) → 4 ≤ distance (address_after list (4 * k)) x
far_from_word list k x ll lx room (inl before) = omega arith
far_from_word list k x ll lx room (inr after) = omega arith

-- bytes stored into word k leave all others
pub others_stay : (s : Storage) (list k : ℕ) (bytes : List ℕ) (x : ℕ) → list < 2 ^ 24 → x < 2 ^ 24 → 4 * k + 4 ≤ list_length → length bytes ≤ 4
    → is_some (span s (address_after list (4 * k)) (length bytes)) ≡ true → (distance list x < 4 * k) ⊎ (4 * k + 4 ≤ distance list x)
    → byte_at (after_write s (address_after list (4 * k)) bytes) x ≡ byte_at s x
others_stay s list k bytes x ll lx room short there aside =
    let far = far_from_word list k x ll lx room aside in
    let at = byte_after_write s (address_after list (4 * k)) bytes x (omega arith) lx (omega arith) there in
    at ∙ rw (le-ltb (distance (address_after list (4 * k)) x) (length bytes) (omega arith)) refl

-- the four bytes of a word
pub record FourBytes (s : Storage) (a v : ℕ) : Type 0 where
  pub b0 : ℕ
  pub b1 : ℕ
  pub b2 : ℕ
  pub b3 : ℕ
  pub at0 : byte_at s (address_after a 0) ≡ Some b0
  pub at1 : byte_at s (address_after a 1) ≡ Some b1
  pub at2 : byte_at s (address_after a 2) ≡ Some b2
  pub at3 : byte_at s (address_after a 3) ≡ Some b3
  pub sum : b0 * 2 ^ 24 + b1 * 2 ^ 16 + b2 * 2 ^ 8 + b3 ≡ v

pub four_bytes : (s : Storage) (a v : ℕ) → a < 2 ^ 24 → word_at s a ≡ Some v → FourBytes s a v
unfolding word_at
four_bytes s a v la e = go (span s a 4) refl e
  where
    go : (o : Option (List ℕ)) → span s a 4 ≡ o → option_map (big_number 4) o ≡ Some v → FourBytes s a v
    go None is e = cc
    go (Some bytes) is e =
        let number : big_number 4 bytes ≡ v = cc in
        record {
          b0 = slice_index bytes 0;
          b1 = slice_index bytes 1;
          b2 = slice_index bytes 2;
          b3 = slice_index bytes 3;
          at0 = span_at s a 4 bytes 0 la is (omega arith);
          at1 = span_at s a 4 bytes 1 la is (omega arith);
          at2 = span_at s a 4 bytes 2 la is (omega arith);
          at3 = span_at s a 4 bytes 3 la is (omega arith);
          sum = omega (arith, number);
        }

word_from : (s : Storage) (a b0 b1 b2 b3 : ℕ) → a < 2 ^ 24 → byte_at s (address_after a 0) ≡ Some b0 → byte_at s (address_after a 1) ≡ Some b1
    → byte_at s (address_after a 2) ≡ Some b2 → byte_at s (address_after a 3) ≡ Some b3 → word_at s a ≡ Some (b0 * 2 ^ 24 + b1 * 2 ^ 16 + b2 * 2 ^ 8 + b3)
unfolding word_at
word_from s a b0 b1 b2 b3 la e0 e1 e2 e3 =
    rw (span_from s a 4 (b0 ∷ b1 ∷ b2 ∷ b3 ∷ []) la refl each) (ap Some (omega arith))
  where
    each : (k : ℕ) → k < 4 → byte_at s (address_after a k) ≡ Some (slice_index (b0 ∷ b1 ∷ b2 ∷ b3 ∷ []) k)
    each zero h = e0
    each (suc zero) h = e1
    each (suc (suc zero)) h = e2
    each (suc (suc (suc zero))) h = e3
    each (suc (suc (suc (suc k)))) h = absurd (omega arith)

-- the first byte of an address is zero, and with the mark in it the word has its high bit
pub first_is_zero : (s : Storage) (a v : ℕ) → a < 2 ^ 24 → word_at s a ≡ Some v → v < 2 ^ 24 → byte_at s a ≡ Some 0
first_is_zero s a v la e small =
    let four = four_bytes s a v la e in
    let total = four.sum in
    let zero_byte : four.b0 ≡ 0 = omega (arith, total) in
    let here : address_after a 0 ≡ a = omega arith in
    rw here at four.at0 ∙ ap Some zero_byte

pub marked_word : (s : Storage) (a v : ℕ) → a < 2 ^ 24 → word_at s a ≡ Some v → v < 2 ^ 24 → is_some (span s a 1) ≡ true → word_at (after_write s a (0x80 ∷ [])) a ≡ Some (2 ^ 31 + v)
marked_word s a v la e small there =
    let four = four_bytes s a v la e in
    let total = four.sum in
    let none : distance a (address_after a 0) ≡ 0 = omega arith in
    let first : byte_at (after_write s a (0x80 ∷ [])) (address_after a 0) ≡ Some 0x80 =
    byte_after_write s a (0x80 ∷ []) (address_after a 0) la (omega arith) (omega arith) there ∙ rw none refl in
    let other : (k : ℕ) → 0 < k → k < 4 → byte_at (after_write s a (0x80 ∷ [])) (address_after a k) ≡ byte_at s (address_after a k) =
    λ k some few. byte_after_write s a (0x80 ∷ []) (address_after a k) la (omega arith) (omega arith) there
    ∙ rw (le-ltb (distance a (address_after a k)) 1 (omega arith)) refl in
    let word = word_from (after_write s a (0x80 ∷ [])) a 0x80 four.b1 four.b2 four.b3 la first (other 1 (omega arith) (omega arith) ∙ four.at1)
    (other 2 (omega arith) (omega arith) ∙ four.at2) (other 3 (omega arith) (omega arith) ∙ four.at3) in
    word ∙ ap Some (omega (arith, total, small))
