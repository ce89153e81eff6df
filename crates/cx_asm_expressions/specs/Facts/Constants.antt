-- How a constant's bytes are made.
use Rattle.std.specs.Prelude.{◌≡◌, ◌⊎◌, ℕ, Option, Some, List, [], ◌∷◌}
use Rattle.std.proofs.Common.{arith}
use Rattle.cx_asm_expressions.specs.Bytes.{address_made, body_made, plain_made}
use Rattle.cx_asm_expressions.specs.Expressions.{value_of}
use Rattle.cx_asm_expressions.specs.Items.{value_length, values_in}
use Rattle.cx_asm_expressions.specs.Kinds.{row_of_kind}
use Rattle.cx_asm_expressions.specs.declared.kinds.ConstantKind.{ConstantKind}
use Rattle.cx_asm_expressions.specs.declared.values.Value.{Value}

-- a value is one address, or made as all others are
pub address_or_plain : (find : List ℕ → Option Value) (here : Option Value) (control : Option (List ℕ)) (kind : ConstantKind) (modifier : Option ℕ) (body : List ℕ)
    → ((body_made find here control kind modifier (Some body) ≡ address_made (value_length kind modifier body) control (value_of find here body))
    × (values_in (row_of_kind kind).style body ≡ body ∷ []))
    ⊎ (body_made find here control kind modifier (Some body) ≡ plain_made kind modifier body)
address_or_plain find here control kind modifier body = grind arith
