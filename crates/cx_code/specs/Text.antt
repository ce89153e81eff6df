-- The text of a line of a disassembly (this product's own; operands as GC33-4010 writes them).
use Rattle.std.specs.Prelude.{ℕ, ◌+◌, ◌/◌, ◌%◌, List, [], ◌∷◌, ◌++◌, Bool, true, false, codes, decimal, flat_map}
use Rattle.std.specs.Fmt.{digit_glyph}
use Rattle.cx_code.specs.declared.instruction.Fields.{Fields}
use Rattle.cx_code.specs.declared.instruction.Fields.TheVariants.{Rr, Rx, Rs, Si, Ss, Ss2}
use Rattle.cx_code.specs.declared.disassembly.Line.{Line}
use Rattle.cx_code.specs.declared.disassembly.LineContent.{LineContent}
use Rattle.cx_code.specs.declared.disassembly.LineContent.TheVariants.{Code, Data, Space}
use Rattle.cx_code.specs.Table.{mnemonic_of, is_shift}
use Rattle.cx_code.specs.Spelling.{Instruction}

-- a storage operand with a base, `D(B)`, and with an index or a length before it, `D(X,B)`
abbrev pub base_text : ℕ → ℕ → List ℕ
base_text d b = decimal d ++ codes "(" ++ decimal b ++ codes ")"

abbrev pub index_text : ℕ → ℕ → ℕ → List ℕ
index_text d x b = decimal d ++ codes "(" ++ decimal x ++ codes "," ++ decimal b ++ codes ")"

-- an RS instruction has its R3 field, or mask, except a shift
abbrev pub third : Bool → ℕ → List ℕ
third true r3 = []
third false r3 = decimal r3 ++ codes ","

-- the operands in the assembler's order and as decimal numbers; a length is the count of bytes, one more than its field
unfoldable pub operands : Bool → Fields → List ℕ
operands shift (Rr r1 r2) = decimal r1 ++ codes "," ++ decimal r2
operands shift (Rx r1 x2 b2 d2) = decimal r1 ++ codes "," ++ index_text d2 x2 b2
operands shift (Rs r1 r3 b2 d2) = decimal r1 ++ codes "," ++ third shift r3 ++ base_text d2 b2
operands shift (Si i2 b1 d1) = base_text d1 b1 ++ codes "," ++ decimal i2
operands shift (Ss l b1 d1 b2 d2) = index_text d1 (l + 1) b1 ++ codes "," ++ base_text d2 b2
operands shift (Ss2 l1 l2 b1 d1 b2 d2) =
    index_text d1 (l1 + 1) b1 ++ codes "," ++ index_text d2 (l2 + 1) b2

-- an instruction is its mnemonic, a blank and its operands
unfoldable pub instruction_text : Instruction → List ℕ
instruction_text i = mnemonic_of i.op ++ codes " " ++ operands (is_shift i.op) i.fields

-- a byte as two hexadecimal digits in capitals, and bytes one after the other
abbrev pub hex_pair : ℕ → List ℕ
hex_pair b = digit_glyph true (b / 16) ∷ digit_glyph true (b % 16) ∷ []

abbrev pub hex_text : List ℕ → List ℕ
hex_text bytes = flat_map hex_pair bytes

-- an instruction, the bytes of a constant, or a space of n bytes
unfoldable pub what_text : LineContent → List ℕ
what_text (Code i) = instruction_text i
what_text (Data bytes) = codes "DC X'" ++ hex_text bytes ++ codes "'"
what_text (Space n) = codes "DS XL" ++ decimal n

-- the offset of a line isn't part of its text
abbrev pub line_text : Line → List ℕ
line_text line = what_text line.what
