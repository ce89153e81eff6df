-- The bytes of a spelling, one by one.
use Rattle.std.specs.Prelude.{ℕ, ◌+◌, ◌*◌, ◌/◌, ◌%◌, List, [], ◌∷◌}
use Rattle.cx_code.specs.declared.instruction.Fields.{Fields}
use Rattle.cx_code.specs.declared.instruction.Fields.TheVariants.{Rr, Rx, Rs, Si, Ss, Ss2}

-- the bytes that the code and the fields make, one by one; they are the spelling
abbrev pub bytes_with : ℕ → Fields → List ℕ
bytes_with c (Rr r1 r2) = c ∷ (16 * r1 + r2) ∷ []
bytes_with c (Rx r1 x2 b2 d2) = c ∷ (16 * r1 + x2) ∷ (16 * b2 + d2 / 256) ∷ (d2 % 256) ∷ []
bytes_with c (Rs r1 r3 b2 d2) = c ∷ (16 * r1 + r3) ∷ (16 * b2 + d2 / 256) ∷ (d2 % 256) ∷ []
bytes_with c (Si i2 b1 d1) = c ∷ i2 ∷ (16 * b1 + d1 / 256) ∷ (d1 % 256) ∷ []
bytes_with c (Ss l b1 d1 b2 d2) =
    c ∷ l ∷ (16 * b1 + d1 / 256) ∷ (d1 % 256) ∷ (16 * b2 + d2 / 256) ∷ (d2 % 256) ∷ []
bytes_with c (Ss2 l1 l2 b1 d1 b2 d2) =
    c ∷ (16 * l1 + l2) ∷ (16 * b1 + d1 / 256) ∷ (d1 % 256) ∷ (16 * b2 + d2 / 256) ∷ (d2 % 256) ∷ []
