-- An item after the digits of its duplication factor.
use Rattle.std.proofs.Common.{◌≡◌, ℕ, Bool, List, Option, Some, Err, drop, ap, sym, ◌∙◌}
use Rattle.std.specs.Prelude.{slice_index}
use Rattle.std.specs.List.{take_while}
use Rattle.std.specs.Option.{option_map_or}
use Rattle.cx_asm_expressions.specs.Digits.{is_digit}
use Rattle.cx_asm_expressions.specs.Items.{after_digits, constant_in, with_modifier}
use Rattle.cx_asm_expressions.specs.Kinds.{kind_of}
use Rattle.cx_asm_expressions.specs.declared.faults.FaultKind.TheVariants.{BadOperand}
use Rattle.cx_asm_expressions.specs.declared.kinds.ConstantKind.{ConstantKind}

pub kind_read : (is_ds : Bool) (text digits rest : List ℕ) (kind : ConstantKind) → digits ≡ take_while (is_digit 10) text → rest ≡ after_digits text
    → kind_of (slice_index rest 0) ≡ Some kind → with_modifier is_ds digits kind (drop 1 rest) ≡ constant_in is_ds text
unfolding constant_in
kind_read is_ds text digits rest kind d r k =
    let front = take_while (is_digit 10) text in
    ap (λ ds. with_modifier is_ds ds kind (drop 1 rest)) d
    ∙ ap (λ (o : Option ConstantKind). option_map_or (λ kind. with_modifier is_ds front kind (drop 1 rest)) o (Err BadOperand)) (sym k)
    ∙ ap (λ x. option_map_or (λ kind. with_modifier is_ds front kind (drop 1 x)) (kind_of (slice_index x 0)) (Err BadOperand)) r
