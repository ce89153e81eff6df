-- Storage operands (GC33-4010, "Operand Fields and Subfields"; GA22-7000 gives the formats).
use Rattle.std.specs.Prelude.{ℕ, ◌-◌, Bool, true, ◌==◌, nat_le, if◌then◌else◌, Option, Some, None, Result, Ok, Err, List, [], ◌∷◌, length, map, take, drop, slice_index, option_map}
use Rattle.std.specs.Option.{ok_or, option_map_or}
use Rattle.std.specs.Result.{result_err}
use Rattle.std.specs.Str.{byte}
use Rattle.cx_source.specs.Marks.{first_mark, parts}
use Rattle.cx_source.specs.declared.marks.Delimiter.TheVariants.{TopComma, Parenthesis}
use Rattle.cx_asm_expressions.specs.Faults.{lower_of, lowest}
use Rattle.cx_asm_expressions.specs.Items.{parenthesized_body}
use Rattle.cx_asm_expressions.specs.declared.values.Value.{Value}
use Rattle.cx_asm_expressions.specs.declared.faults.FaultKind.{FaultKind}
use Rattle.cx_asm_expressions.specs.declared.faults.FaultKind.TheVariants.{BadOperand, ValueOutOfRange}
use Rattle.cx_asm_operands.specs.Checking.{both_or_lower_fault, then_check, with_made}
use Rattle.cx_asm_operands.specs.Addresses.{address, implied_address}
use Rattle.cx_asm_operands.specs.Context.{Context, expression_value, operand_number, number_at_most, register_in}
use Rattle.cx_asm_operands.specs.declared.addresses.Address.{Address}

-- A storage operand as it is written: what is before the parentheses has this value, or a fault; and the parts in
-- the parentheses, none without them.
pub record Operand : Type 0 where
  pub place : Result Value FaultKind
  pub subfields : List (List ℕ)

abbrev pub operand : Result Value FaultKind → List (List ℕ) → Operand
operand place subfields = record { place = place; subfields = subfields }

-- an expression, and the parts of a list in parentheses after it, which ends the text, if there is one
abbrev pub expression_and_list : List ℕ → Option (List ℕ × List (List ℕ))
expression_and_list text =
    let at = first_mark Parenthesis text in
    if at == length text then Some (text, [])
    else option_map (λ body. (take at text, parts TopComma body)) (parenthesized_body (drop at text))

abbrev pub is_literal : List ℕ → Bool
is_literal text = slice_index text 0 == byte "="

-- A literal stands for its place, where one is allowed here. None where the text is no storage operand.
unfoldable pub operand_in : Bool → Context → List ℕ → Option Operand
operand_in takes_literal c text =
    if is_literal text then (if takes_literal then Some (operand (ok_or c.literal BadOperand) []) else None)
    else option_map (λ written. operand (expression_value c written.0) written.1) (expression_and_list text)

-- ---- base and displacement
-- with a base written, the expression is a displacement
abbrev pub explicit_address : Context → Result Value FaultKind → List ℕ → Result Address FaultKind
explicit_address c place base =
    with_made (λ v. address v.1 v.0) (both_or_lower_fault (then_check (number_at_most 4095) place) (register_in c base))

-- subfields that the operand has no room for: BadOperand, beside their own faults and those of the rest
abbrev pub too_many_subfields : Context → Result Address FaultKind → List (List ℕ) → Result Address FaultKind
too_many_subfields c address more =
    let faults = map (λ text. result_err (expression_value c text)) more in
    Err (option_map_or (lower_of BadOperand) (lowest (result_err address ∷ faults)) BadOperand)

-- S, D(B): by what is in the parentheses at the place of a base: nothing, a base, or too much
abbrev pub address_by_subfields : Context → Result Value FaultKind → List (List ℕ) → Result Address FaultKind
address_by_subfields c place [] = then_check (implied_address c.bases) place
address_by_subfields c place (base ∷ []) = explicit_address c place base
address_by_subfields c place (base ∷ other ∷ more) = too_many_subfields c (explicit_address c place base) (other ∷ more)

-- ---- S, S(X), D(X,B), D(,B)
-- an index in front of a base; one that isn't written is 0
abbrev pub index_in : Context → List ℕ → Result ℕ FaultKind
index_in c [] = Ok 0
index_in c text = register_in c text

abbrev pub indexed_by : Context → Result Value FaultKind → List (List ℕ) → Result (ℕ × Address) FaultKind
indexed_by c place [] = both_or_lower_fault (Ok 0) (address_by_subfields c place [])
indexed_by c place (index ∷ []) = both_or_lower_fault (register_in c index) (address_by_subfields c place [])
indexed_by c place (index ∷ base) = both_or_lower_fault (index_in c index) (address_by_subfields c place base)

-- ---- S, S(L), D(L,B)
-- the length attribute of what is before the parentheses
abbrev pub implied_length : ℕ → Value → Result ℕ FaultKind
implied_length most value = if nat_le value.length most then Ok value.length else Err ValueOutOfRange

abbrev pub counted_by : ℕ → Context → Result Value FaultKind → List (List ℕ) → Result (ℕ × Address) FaultKind
counted_by most c place [] =
    both_or_lower_fault (then_check (implied_length most) place) (address_by_subfields c place [])
counted_by most c place (count ∷ base) =
    both_or_lower_fault (operand_number most c count) (address_by_subfields c place base)

-- the field of a length is one less, where it isn't 0
abbrev pub address_with_length : ℕ → Context → Operand → Result (ℕ × Address) FaultKind
address_with_length most c operand = with_made (λ v. (v.0 - 1, v.1)) (counted_by most c operand.place operand.subfields)

-- ---- the text of a storage operand of each kind; one that can't be read is BadOperand alone
unfoldable pub plain_in : Bool → Context → List ℕ → Result Address FaultKind
plain_in takes_literal c text =
    option_map_or (λ o. address_by_subfields c o.place o.subfields) (operand_in takes_literal c text) (Err BadOperand)

unfoldable pub indexed_in : Context → List ℕ → Result (ℕ × Address) FaultKind
indexed_in c text = option_map_or (λ o. indexed_by c o.place o.subfields) (operand_in true c text) (Err BadOperand)

unfoldable pub counted_in : ℕ → Bool → Context → List ℕ → Result (ℕ × Address) FaultKind
counted_in most takes_literal c text =
    option_map_or (address_with_length most c) (operand_in takes_literal c text) (Err BadOperand)
