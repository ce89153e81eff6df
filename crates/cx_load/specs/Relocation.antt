-- Relocation: what loading at an address does to the text (this product's own).
use Rattle.std.specs.Prelude.{ℕ, ◌+◌, ◌%◌, ◌^◌, List, [], ◌∷◌, ◌++◌, take, drop}
use Rattle.byteorder.specs.Endian.{big_bytes, big_from}

-- the word at an offset, four bytes with the highest first
abbrev pub word_in : List ℕ → ℕ → ℕ
word_in bytes r = big_from r 4 bytes

-- bytes with an address added to the word at an offset, modulo 2^32
unfoldable pub relocate_word : ℕ → ℕ → List ℕ → List ℕ
relocate_word at r bytes = take r bytes ++ big_bytes 4 ((word_in bytes r + at) % 2 ^ 32) ++ drop (r + 4) bytes

-- bytes with it added to each of these words
abbrev pub relocated_text : ℕ → List ℕ → List ℕ → List ℕ
relocated_text at [] bytes = bytes
relocated_text at (r ∷ relocs) bytes = relocated_text at relocs (relocate_word at r bytes)
