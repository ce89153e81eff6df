-- Texts: bytes as they are shown, words and lines (own).
use Rattle.std.specs.Prelude.{ℕ, zero, suc, ◌-◌, ◌==◌, Bool, not, List, [], ◌∷◌, ◌++◌, length, map, take, take_while}
use Rattle.std.specs.List.{flat_map, suffix_len}
use Rattle.cx_ebcdic.specs.Characters.{shown_as}

-- bytes through the character table
abbrev pub shown_text : List ℕ → List ℕ
shown_text bytes = map shown_as bytes

-- a name without the blanks that fill it
abbrev pub is_filled : ℕ → Bool
is_filled byte = not (byte == 0x40)

unfoldable pub shown_name : List ℕ → List ℕ
shown_name name = shown_text (take_while is_filled name)

-- a line: its words, separated by one blank, and LF
abbrev pub written_line : List ℕ → List (List ℕ) → List ℕ
written_line first words = first ++ flat_map (λ word. 32 ∷ word) words ++ (10 ∷ [])

-- without the blanks at its end
abbrev pub is_space : ℕ → Bool
is_space c = c == 32

abbrev pub trim : List ℕ → List ℕ
trim text = take (length text - suffix_len is_space text) text

-- a text in n columns: what is beyond them is cut, and blanks fill them
unfoldable pub in_columns : ℕ → List ℕ → List ℕ
in_columns zero text = []
in_columns (suc columns) [] = 32 ∷ in_columns columns []
in_columns (suc columns) (c ∷ text) = c ∷ in_columns columns text

-- pieces one after the other
abbrev pub join : List (List ℕ) → List ℕ
join pieces = flat_map (λ piece. piece) pieces
