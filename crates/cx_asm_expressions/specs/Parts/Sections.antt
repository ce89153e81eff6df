-- The sections of a sum with their weights, one value after the other (own).
use Rattle.std.specs.Prelude.{ℕ, ℤ, pos, negsuc, ◌+ℤ◌, if◌then◌else◌, Option, Some, None, List, [], ◌∷◌}
use Rattle.std.specs.Ordering.{int_eq}
use Rattle.cx_asm_expressions.specs.Names.{is_same}
use Rattle.cx_asm_expressions.specs.declared.terms.Sign.{Sign}
use Rattle.cx_asm_expressions.specs.declared.terms.Sign.TheVariants.{Plus, Minus}
use Rattle.cx_asm_expressions.specs.declared.expressions.Signed.{Signed}

-- a sign's weight
abbrev pub unit : Sign → ℤ
unit Plus = pos 1
unit Minus = negsuc 0

abbrev pub Weights : Type 0
Weights = List (List ℕ × ℤ)

-- with `more` put on a section's weight
abbrev pub put : List ℕ → ℤ → Weights → Weights
put name more [] = (name, more) ∷ []
put name more (entry ∷ entries) =
    if is_same name entry.0 then (entry.0, entry.1 +ℤ more) ∷ entries else entry ∷ put name more entries

abbrev pub put_in : Option (List ℕ) → ℤ → Weights → Weights
put_in None more entries = entries
put_in (Some name) more entries = put name more entries

abbrev pub weights_from : Weights → List Signed → Weights
weights_from entries [] = entries
weights_from entries (value ∷ values) = weights_from (put_in value.value.section (unit value.sign) entries) values

-- by the sections that weigh something: absolute without any, a place in one that weighs one, and else neither
abbrev pub section_in : Weights → Option (Option (List ℕ))
section_in [] = Some None
section_in (entry ∷ []) = if int_eq entry.1 (pos 1) then Some (Some entry.0) else None
section_in (one ∷ other ∷ more) = None
