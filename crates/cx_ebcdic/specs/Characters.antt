-- The characters that the product knows, with their EBCDIC codes (System/370 Reference Summary, GX20-1850, "Code
-- Assignments").
use Rattle.std.specs.Prelude.{ℕ, ◌+◌, Option, List, [], ◌∷◌, ◌++◌, ◌==◌, codes, option_map, unwrap_or}
use Rattle.std.specs.List.{find}

-- the characters of a text, with codes one after another
abbrev pub run : List ℕ → ℕ → List (ℕ × ℕ)
run [] code = []
run (character ∷ characters) code = (character, code) ∷ run characters (code + 1)

-- The table: each character with its code (System/370 Reference Summary, GX20-1850, "Code Assignments").
unfoldable pub table : List (ℕ × ℕ)
table =
    run (codes " ") 0x40 ++ run (codes ".<(+|") 0x4B ++ run (codes "&") 0x50 ++ run (codes "!$*);") 0x5A
    ++ run (codes "-/") 0x60 ++ run (codes ",%_>?") 0x6B ++ run (codes ":#@'=\"") 0x7A
    ++ run (codes "abcdefghi") 0x81 ++ run (codes "jklmnopqr") 0x91 ++ run (codes "stuvwxyz") 0xA2
    ++ run (codes "ABCDEFGHI") 0xC1 ++ run (codes "JKLMNOPQR") 0xD1 ++ run (codes "STUVWXYZ") 0xE2
    ++ run (codes "0123456789") 0xF0

-- the code of a character, where the table has it
unfoldable pub code_of : ℕ → Option ℕ
code_of character = option_map (λ row. row.1) (find (λ row. row.0 == character) table)

-- the character that shows a byte: that of the table, or a period
unfoldable pub shown_as : ℕ → ℕ
shown_as byte = unwrap_or (option_map (λ row. row.0) (find (λ row. row.1 == byte) table)) 46
