-- The lines of registers (own).
use Rattle.std.specs.Prelude.{ℕ, ◌+◌, List, [], ◌∷◌, ◌++◌, map, slice_index, codes}
use Rattle.cx_base.specs.Digits.{digits}
use Rattle.cx_look_lines.specs.Words.{Lines, look_line}

-- four to a line, after the number of the first
unfoldable pub register_line : List ℕ → ℕ → Lines
register_line regs k =
    let four = k ∷ (k + 1) ∷ (k + 2) ∷ (k + 3) ∷ [] in
    look_line ((codes "R" ++ digits 10 2 k) ∷ map (λ n. digits 16 8 (slice_index regs n)) four)

unfoldable pub register_lines : List ℕ → Lines
register_lines regs = register_line regs 0 ++ register_line regs 4 ++ register_line regs 8 ++ register_line regs 12
