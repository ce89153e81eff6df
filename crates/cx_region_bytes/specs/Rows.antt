-- Bytes of storage as they are shown in rows of sixteen (own).
use Rattle.std.specs.Prelude.{ℕ, ◌+◌, Option, List, [], ◌∷◌, codes, map, slice_get}
use Rattle.std.specs.List.{range_with_len}
use Rattle.std.specs.Option.{option_map_or}
use Rattle.cx_ebcdic.specs.Characters.{shown_as}
use Rattle.cx_storage.specs.Address.{address_after}
use Rattle.cx_storage.specs.Storage.{Storage, byte_at}
use Rattle.cx_base.specs.Digits.{digits}
use Rattle.cx_base.specs.Texts.{in_columns, join}

-- n bytes from an address on, any of which may be absent
unfoldable pub bytes_at : Storage → ℕ → ℕ → List (Option ℕ)
bytes_at storage address n = map (λ k. byte_at storage (address_after address k)) (range_with_len 0 n)

-- a byte in hexadecimal, and its character: hyphens are an absent one's
abbrev pub hex_of : Option ℕ → List ℕ
hex_of byte = option_map_or (digits 16 2) byte (codes "--")

abbrev pub character_of : Option ℕ → List ℕ
character_of byte = option_map_or (λ it. shown_as it ∷ []) byte (codes "-")

-- those of the byte at k of a row, counted from 0: blanks stand for what is past the row's end
unfoldable pub hex_at : List (Option ℕ) → ℕ → List ℕ
hex_at row k = option_map_or hex_of (slice_get row k) (codes "  ")

unfoldable pub character_at : List (Option ℕ) → ℕ → List ℕ
character_at row k = option_map_or character_of (slice_get row k) (codes " ")

-- those of four bytes of a row from k on
abbrev pub four : ℕ → List ℕ
four k = k ∷ (k + 1) ∷ (k + 2) ∷ (k + 3) ∷ []

unfoldable pub hex_group : List (Option ℕ) → ℕ → List ℕ
hex_group row k = in_columns 8 (join (map (hex_at row) (four k)))

unfoldable pub character_group : List (Option ℕ) → ℕ → List ℕ
character_group row k = in_columns 4 (join (map (character_at row) (four k)))

-- where the four words of 16 bytes begin
abbrev pub quarters : List ℕ
quarters = 0 ∷ 4 ∷ 8 ∷ 12 ∷ []

-- a row: the address of its first byte, its bytes in hexadecimal, and their characters
unfoldable pub row_text : ℕ → List (Option ℕ) → List ℕ
row_text at row =
    in_columns 61
    (join
    (digits 16 6 at ∷ codes "  " ∷ hex_group row 0 ∷ codes " " ∷ hex_group row 4 ∷ codes " " ∷ hex_group row 8
    ∷ codes " " ∷ hex_group row 12 ∷ codes "  " ∷ map (character_group row) quarters))
