-- Whether a sum of values is absolute, or a place in a section (GC33-4010, "Absolute and Relocatable Expressions").
use Rattle.std.specs.Prelude.{◌≡◌, ℕ, ℤ, pos, ◌+ℤ◌, ◌-ℤ◌, Bool, false, if◌then◌else◌, Option, Some, None, List, [], ◌∷◌, map}
use Rattle.std.specs.List.{filter_map, find, list_all}
use Rattle.std.specs.Option.{option_map_or}
use Rattle.std.specs.Ordering.{int_eq}
use Rattle.cx_asm_expressions.specs.Names.{is_same}
use Rattle.cx_asm_expressions.specs.declared.terms.Sign.{Sign}
use Rattle.cx_asm_expressions.specs.declared.terms.Sign.TheVariants.{Plus, Minus}
use Rattle.cx_asm_expressions.specs.declared.expressions.Signed.{Signed}

-- one number more or less
abbrev pub with_sign : Sign → ℤ → ℤ → ℤ
with_sign Plus total number = total +ℤ number
with_sign Minus total number = total -ℤ number

abbrev pub stands_in : List ℕ → Option (List ℕ) → Bool
stands_in name section = option_map_or (is_same name) section false

-- a section's weight: the sum of the signs of the values in it
abbrev pub weight : List ℕ → List Signed → ℤ
weight name [] = pos 0
weight name (value ∷ values) =
    if stands_in name value.value.section then with_sign value.sign (weight name values) (pos 1) else weight name values

-- A sum is absolute where every section weighs nothing: its values come in pairs of opposite signs. It is a place in
-- the section that weighs one, where every other weighs nothing.
abbrev pub Weighs : List Signed → Option (List ℕ) → Type 0
Weighs values section = (name : List ℕ) → weight name values ≡ (if stands_in name section then pos 1 else pos 0)

-- ---- the section of a sum; the law `a_sum_is_where_it_weighs` says that it is the one that `Weighs` gives
-- the sections that values are in: no other weighs anything
abbrev pub sections_of : List Signed → List (List ℕ)
sections_of values = filter_map (λ (value : Signed). value.value.section) values

abbrev pub weighs_in : List Signed → Option (List ℕ) → Bool
weighs_in values section =
    list_all (λ name. int_eq (weight name values) (if stands_in name section then pos 1 else pos 0))
    (sections_of values)

unfoldable pub relocation : List Signed → Option (Option (List ℕ))
relocation values = find (weighs_in values) (None ∷ map Some (sections_of values))
