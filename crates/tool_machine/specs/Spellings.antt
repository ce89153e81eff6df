-- What a line of the spellings says of bytes (this product's own form).
use Rattle.std.specs.Prelude.{ℕ, ◌+◌, List, [], ◌∷◌, ◌++◌, Bool, true, false, Option, Some, None, codes, decimal}
use Rattle.cx_code.specs.declared.instruction.Fields.{Fields}
use Rattle.cx_code.specs.declared.instruction.Fields.TheVariants.{Rr, Rx, Rs, Si, Ss, Ss2}
use Rattle.cx_code.specs.Table.{mnemonic_of, is_shift}
use Rattle.cx_code.specs.Spelling.{Instruction}

-- numbers in decimal, with commas between them
abbrev pub with_commas : List ℕ → List ℕ
with_commas [] = []
with_commas (n ∷ []) = decimal n
with_commas (n ∷ m ∷ ns) = decimal n ++ codes "," ++ with_commas (m ∷ ns)

-- the operands in the order of a source; a shift has no R3, and a length is the count of bytes
abbrev pub numbers : Bool → Fields → List ℕ
numbers shift (Rr r1 r2) = r1 ∷ r2 ∷ []
numbers shift (Rx r1 x2 b2 d2) = r1 ∷ d2 ∷ x2 ∷ b2 ∷ []
numbers true (Rs r1 r3 b2 d2) = r1 ∷ d2 ∷ b2 ∷ []
numbers false (Rs r1 r3 b2 d2) = r1 ∷ r3 ∷ d2 ∷ b2 ∷ []
numbers shift (Si i2 b1 d1) = d1 ∷ b1 ∷ i2 ∷ []
numbers shift (Ss l b1 d1 b2 d2) = d1 ∷ (l + 1) ∷ b1 ∷ d2 ∷ b2 ∷ []
numbers shift (Ss2 l1 l2 b1 d1 b2 d2) = d1 ∷ (l1 + 1) ∷ b1 ∷ d2 ∷ (l2 + 1) ∷ b2 ∷ []

-- a mnemonic and operands, or two dashes where there is no instruction
unfoldable pub description : Option Instruction → List ℕ
description None = codes "- -"
description (Some i) = mnemonic_of i.op ++ codes " " ++ with_commas (numbers (is_shift i.op) i.fields)
