-- Resolved lines: what is at each place of the control section, in address order (this product's own).
use Rattle.std.specs.Prelude.{ℕ, ◌+◌, ◌≤◌, List, [], ◌∷◌, length, replicate, Bool, true, false}
use Rattle.cx_code.specs.declared.disassembly.Line.{Line}
use Rattle.cx_code.specs.declared.disassembly.LineContent.{LineContent}
use Rattle.cx_code.specs.declared.disassembly.LineContent.TheVariants.{Code, Data, Space}
use Rattle.cx_code.specs.Spelling.{spelling}

-- the bytes of what is at a place: an instruction's spelling, a constant's bytes, zeros in a space
abbrev pub bytes_of : LineContent → List ℕ
bytes_of (Code i) = spelling i
bytes_of (Data bytes) = bytes
bytes_of (Space n) = replicate n 0

-- how many they are
abbrev pub size_of : LineContent → ℕ
size_of (Code i) = length (spelling i)
size_of (Data bytes) = length bytes
size_of (Space n) = n

-- the offset after a line
abbrev pub offset_after : Line → ℕ
offset_after line = line.at + size_of line.what

-- the offset after the last of some lines, and `from` where there are none
abbrev pub end_after : ℕ → List Line → ℕ
end_after from [] = from
end_after from (line ∷ rest) = end_after (offset_after line) rest

-- lines that ascend and share no byte, none of them before an offset or past a size
abbrev pub AreApart : ℕ → List Line → ℕ → Type 0
AreApart from [] size = from ≤ size
AreApart from (line ∷ rest) size = (from ≤ line.at) × AreApart (offset_after line) rest size

-- whether an instruction is there
abbrev pub is_code : LineContent → Bool
is_code (Code i) = true
is_code _ = false
