-- Words and halfwords from the buffer that a read filled.
use Rattle.std.proofs.Common.{refl}
use Rattle.std.specs.Option.{option_map, unwrap_or}
use Rattle.std.specs.Prelude.{◌≡◌, ℕ, true, false, List, Option, Some, None, is_some}
use Rattle.byteorder.specs.Endian.{big_number}
use Rattle.cx_storage.specs.Storage.{Storage, span}
use Rattle.cx_storage.specs.Word.{word_at, halfword_at}

some_read : (o : Option (List ℕ)) (old : List ℕ) (f : List ℕ → ℕ) → is_some o ≡ true → option_map f o ≡ Some (f (unwrap_or o old))
some_read None old f e = cc
some_read (Some bytes) old f e = refl

none_read : (o : Option (List ℕ)) (f : List ℕ → ℕ) → is_some o ≡ false → option_map f o ≡ None
none_read None f e = refl
none_read (Some bytes) f e = cc

-- a word from the buffer that `read` filled: the first part says nothing, and shows the call to match
pub word_read : (s : Storage) (a : ℕ) (old : List ℕ) → is_some (span s a 4) ≡ true
    → (unwrap_or (span s a 4) old ≡ unwrap_or (span s a 4) old) × (word_at s a ≡ Some (big_number 4 (unwrap_or (span s a 4) old)))
unfolding word_at
word_read s a old e = (refl, some_read (span s a 4) old (big_number 4) e)

pub halfword_read : (s : Storage) (a : ℕ) (old : List ℕ) → is_some (span s a 2) ≡ true
    → (unwrap_or (span s a 2) old ≡ unwrap_or (span s a 2) old) × (halfword_at s a ≡ Some (big_number 2 (unwrap_or (span s a 2) old)))
unfolding halfword_at
halfword_read s a old e = (refl, some_read (span s a 2) old (big_number 2) e)

pub word_absent : (s : Storage) (a : ℕ) → is_some (span s a 4) ≡ false → word_at s a ≡ None
unfolding word_at
word_absent s a e = none_read (span s a 4) (big_number 4) e

pub halfword_absent : (s : Storage) (a : ℕ) → is_some (span s a 2) ≡ false → halfword_at s a ≡ None
unfolding halfword_at
halfword_absent s a e = none_read (span s a 2) (big_number 2) e
