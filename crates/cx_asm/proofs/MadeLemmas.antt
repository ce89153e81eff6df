-- A constant's bytes are no more than its length.
use Rattle.std.specs.Prelude.{Result, Ok, Err, not, is_some, drop, slice_index, take_while, ◌&&◌, ◌==◌, ◌*◌, ◌^◌, flat_map, map, option_and_then, sum_by, take, unwrap_or}
use Rattle.std.specs.Option.{option_map_or}
use Rattle.std.specs.Int.{bytes_high_first}
use Rattle.std.proofs.Common.{◌≡◌, ◌≤◌, ℕ, zero, suc, ℤ, Bool, true, false, cond, Option, Some, None, option_map, List, [], ◌∷◌, length, refl, sym, ◌∙◌, ap, subst, ⊎_elim, arith}
use Rattle.std.proofs.lemmas.Bool.Decides.{nat_tests}
use Rattle.std.proofs.lemmas.List.Concat.{length-flat_map}
use Rattle.std.proofs.lemmas.List.Sums.{sum_by-le-sum_by}
use Rattle.std.proofs.lemmas.Option.{none-some}
use Rattle.cx_asm_expressions.specs.Bytes.{CopyOfConstant, address_made, body_made, copy_of_constant, constant_copy, address_constant, plain_made}
use Rattle.cx_asm_expressions.specs.Digits.{at_most, is_digit, number_in}
use Rattle.cx_asm_expressions.specs.Expressions.{value_of}
use Rattle.cx_asm_expressions.specs.Facts.Constants.{address_or_plain}
use Rattle.cx_asm_expressions.specs.Faults.{lowest}
use Rattle.cx_asm_expressions.specs.Items.{Constant, after_digits, constant, constant_in, duplication_in, length_of, constant_or_fault, modifier_in, value_in, value_length, values_in, with_modifier, with_value}
use Rattle.cx_asm_expressions.specs.Kinds.{half_bytes, integer_bytes, is_below, kind_of, row_of_kind}
use Rattle.cx_asm_expressions.specs.Weights.{stands_in}
use Rattle.cx_asm_expressions.specs.declared.faults.FaultKind.{FaultKind}
use Rattle.cx_asm_expressions.specs.declared.faults.FaultKind.TheVariants.{BadOperand, NotRelocatable, ValueOutOfRange}
use Rattle.cx_asm_expressions.specs.declared.kinds.ConstantKind.{ConstantKind}
use Rattle.cx_asm_expressions.specs.declared.values.Value.{Value}
use Rattle.cx_asm_operands.specs.Checking.{then_check as judged_as}
use Rattle.cx_asm_pass2.specs.Whole.{Whole, item_made}

-- its bytes are no more than a size, which holds a word where it is relocated
pub record MadeFits (made : CopyOfConstant) (size : ℕ) : Type 0 where
  pub short : length made.bytes ≤ size
  pub word : made.is_relocated ≡ true → 4 ≤ size

fits_more : (m : CopyOfConstant) (less more : ℕ) → less ≤ more → MadeFits m less → MadeFits m more
fits_more m less more le fits = record { short = omega (arith, fits.short, le); word = λ is. omega (arith, fits.word is, le) }

fits_plain : (bytes : List ℕ) (m : CopyOfConstant) (size : ℕ) → length bytes ≤ size → copy_of_constant bytes false ≡ m → MadeFits m size
fits_plain bytes m size le e = subst (λ m. MadeFits m size) e (record { short = le; word = λ is. cc })

-- ---- bytes
taken : (n : ℕ) (bytes : List ℕ) → length (take n bytes) ≤ n
taken zero bytes = omega arith
taken (suc n) [] = omega arith
taken (suc n) (byte ∷ bytes) = omega (arith, taken n bytes)

high_first : (n number : ℕ) → length (bytes_high_first n number) ≡ n
high_first zero number = refl
high_first (suc n) number = ap suc (high_first n number)

halves : (kind : ConstantKind) (value : List ℕ) (n : ℕ) → length (half_bytes kind value n) ≡ n
halves kind value zero = refl
halves kind value (suc n) = ap suc (halves kind value n)

when_word : (is : Bool) (n number : ℕ) → length (cond is (bytes_high_first n number) []) ≤ n
when_word true n number = omega (arith, high_first n number)
when_word false n number = omega arith

integers : (n : ℕ) (number : ℤ) → length (integer_bytes n number) ≤ n
integers n number = when_word _ n _

-- ---- one value
abbrev bytes_of_value : ConstantKind → Option ℕ → List ℕ → List ℕ
bytes_of_value kind modifier value = (row_of_kind kind).bytes value (value_length kind modifier value)

abbrev body_length : ConstantKind → Option ℕ → Option (List ℕ) → ℕ
body_length kind modifier value =
    option_map_or (λ body. sum_by (value_length kind modifier) (values_in (row_of_kind kind).style body)) value (unwrap_or modifier (row_of_kind kind).alignment)

-- a type that takes no length modifier has none
abbrev Modified : ConstantKind → Option ℕ → Type 0
Modified kind modifier = (row_of_kind kind).greatest_in_dc ≡ 0 → modifier ≡ None

value_fits : (kind : ConstantKind) (modifier : Option ℕ) → Modified kind modifier → (value : List ℕ) → length (bytes_of_value kind modifier value) ≤ value_length kind modifier value
value_fits kind modifier is value = grind (arith, taken, halves, integers)

-- ---- all values
values_fit : (kind : ConstantKind) (modifier : Option ℕ) → Modified kind modifier → (values : List (List ℕ)) → length (flat_map (bytes_of_value kind modifier) values) ≤ sum_by (value_length kind modifier) values
values_fit kind modifier is values =
    omega (
      arith,
      length-flat_map (bytes_of_value kind modifier) values,
      sum_by-le-sum_by (λ value. length (bytes_of_value kind modifier value)) (value_length kind modifier) values (value_fits kind modifier is),
    )

unless_fits : (fault : Option FaultKind) (bytes : List ℕ) (m : CopyOfConstant) (size : ℕ) → length bytes ≤ size → option_map_or Err fault (Ok (copy_of_constant bytes false)) ≡ Ok m → MadeFits m size
unless_fits None bytes m size le e = fits_plain bytes m size le cc
unless_fits (Some fault) bytes m size le e = cc

plain_fits : (kind : ConstantKind) (modifier : Option ℕ) (body : List ℕ) (m : CopyOfConstant) → Modified kind modifier → plain_made kind modifier body ≡ Ok m → MadeFits m (body_length kind modifier (Some body))
plain_fits kind modifier body m is e =
    let values = values_in (row_of_kind kind).style body in
    unless_fits (lowest (map (λ value. (row_of_kind kind).fault value (value_length kind modifier value)) values)) (flat_map (bytes_of_value kind modifier) values) m _
    (values_fit kind modifier is (values_in (row_of_kind kind).style body)) e

-- ---- addresses
unless_refused : (is : Bool) (one m : CopyOfConstant) (fault : FaultKind) → cond is (Ok one) (Err fault) ≡ Ok m → (is ≡ true) × (one ≡ m)
unless_refused true one m fault e = (refl, cc)
unless_refused false one m fault e = cc

both_true : (a b : Bool) → (a && b) ≡ true → a ≡ true
both_true true b e = refl
both_true false b e = e

is_four : (n : ℕ) (b : Bool) → (n == 4 && b) ≡ true → n ≡ 4
is_four n b e = let f : n == 4 ≡ true = both_true (n == 4) b e in grind (arith, nat_tests)

word_fits : (n : ℕ) (number : ℤ) (m : CopyOfConstant) → n ≡ 4 → copy_of_constant (integer_bytes 4 number) true ≡ m → MadeFits m n
word_fits n number m is e = subst (λ m. MadeFits m n) e (record { short = omega (arith, integers 4 number, is); word = λ _. omega (arith, is) })

placed_fits : (n : ℕ) (control section : Option (List ℕ)) (number : ℤ) (m : CopyOfConstant) → address_constant n control section number ≡ Ok m → MadeFits m n
placed_fits n control None number m e =
    let h = unless_refused (is_below n number (2 ^ (8 * n))) (copy_of_constant (integer_bytes n number) false) m ValueOutOfRange e in
    fits_plain (integer_bytes n number) m n (integers n number) h.1
placed_fits n control (Some section) number m e =
    let h = unless_refused (n == 4 && stands_in section control) (copy_of_constant (integer_bytes 4 number) true) m NotRelocatable e in
    word_fits n number m (is_four n (stands_in section control) h.0) h.1

address_fits : (n : ℕ) (control : Option (List ℕ)) (value : Result Value FaultKind) (m : CopyOfConstant) → address_made n control value ≡ Ok m → MadeFits m n
address_fits n control (Ok value) m e = placed_fits n control value.section value.number m e
address_fits n control (Err fault) m e = cc

one_value : (size : List ℕ → ℕ) (body : List ℕ) (values : List (List ℕ)) → values ≡ body ∷ [] → size body ≤ sum_by size values
one_value size body values is = subst (λ values. size body ≤ sum_by size values) (sym is) (omega arith)

-- ---- a constant
body_fits : (find : List ℕ → Option Value) (here : Option Value) (control : Option (List ℕ)) (kind : ConstantKind) (modifier : Option ℕ) (value : Option (List ℕ)) (m : CopyOfConstant)
    → Modified kind modifier → body_made find here control kind modifier value ≡ Ok m → MadeFits m (body_length kind modifier value)
body_fits find here control kind modifier None m is e = fits_plain [] m _ (omega arith) cc
body_fits find here control kind modifier (Some body) m is e =
    ⊎_elim
    (λ address. fits_more m (value_length kind modifier body) _ (one_value (value_length kind modifier) body _ address.1) (address_fits (value_length kind modifier body) control (value_of find here body) m (sym address.0 ∙ e)))
    (λ plain. plain_fits kind modifier body m is (sym plain ∙ e))
    (address_or_plain find here control kind modifier body)

-- ---- length modifiers
abbrev at_least_one : ℕ → Option ℕ
at_least_one number = cond (number == 0) None (Some number)

none_least : (n : ℕ) → option_map Some (option_and_then at_least_one (at_most 0 n)) ≡ None
none_least zero = refl
none_least (suc n) = grind (arith, nat_tests)

no_limit : (is_ds : Bool) (kind : ConstantKind) → (row_of_kind kind).greatest_in_dc ≡ 0 → cond is_ds (row_of_kind kind).greatest_in_ds (row_of_kind kind).greatest_in_dc ≡ 0
no_limit is_ds kind none = grind arith

modified : (is_ds : Bool) (kind : ConstantKind) (digits : Option (List ℕ)) (modifier : Option ℕ) → modifier_in is_ds kind digits ≡ Some modifier → Modified kind modifier
modified is_ds kind None modifier e none = cc
modified is_ds kind (Some digits) modifier e none =
    let refused : option_map Some (option_and_then at_least_one (at_most 0 (number_in 10 digits))) ≡ Some modifier =
    subst (λ most. option_map Some (option_and_then at_least_one (at_most most (number_in 10 digits))) ≡ Some modifier) (no_limit is_ds kind none) e in
    absurd (none-some modifier (sym (none_least (number_in 10 digits)) ∙ refused))

limited_parts : (duplication : Option ℕ) (modifier : Option (Option ℕ)) (kind : ConstantKind) (value : Option (List ℕ)) (item : Constant) → constant_or_fault duplication modifier kind value ≡ Ok item
    → (modifier ≡ Some item.modifier) × (kind ≡ item.kind)
limited_parts None modifier kind value item e = cc
limited_parts (Some duplication) None kind value item e = cc
limited_parts (Some duplication) (Some modifier) kind value item e =
    let same : constant duplication kind modifier value ≡ item = cc in
    (ap (λ (i : Constant). Some i.modifier) same, ap (λ (i : Constant). i.kind) same)

-- whatever its value
limited_modified : (is_ds : Bool) (duplication : Option ℕ) (kind : ConstantKind) (digits : Option (List ℕ)) (value : Option (Option (List ℕ))) (item : Constant)
    → option_map_or (constant_or_fault duplication (modifier_in is_ds kind digits) kind) value (Err BadOperand) ≡ Ok item → Modified item.kind item.modifier
limited_modified is_ds duplication kind digits None item e = cc
limited_modified is_ds duplication kind digits (Some value) item e =
    let parts = limited_parts duplication (modifier_in is_ds kind digits) kind value item e in
    subst (λ kind. Modified kind item.modifier) parts.1 (modified is_ds kind digits item.modifier parts.0)

value_modified : (is_ds : Bool) (duplication : List ℕ) (kind : ConstantKind) (digits : Option (List ℕ)) (rest : List ℕ) (item : Constant)
    → with_value is_ds duplication kind digits rest ≡ Ok item → Modified item.kind item.modifier
value_modified is_ds duplication kind digits rest item e =
    limited_modified is_ds (duplication_in duplication) kind digits (value_in is_ds kind (is_some digits) rest) item e

kind_modified : (is_ds : Bool) (duplication rest : List ℕ) (kind : Option ConstantKind) (item : Constant)
    → option_map_or (λ kind. with_modifier is_ds duplication kind rest) kind (Err BadOperand) ≡ Ok item → Modified item.kind item.modifier
kind_modified is_ds duplication rest None item e = cc
kind_modified is_ds duplication rest (Some kind) item e =
    go (slice_index rest 0 == 76) (not ((row_of_kind kind).greatest_in_dc == 0) && not (length (take_while (is_digit 10) (drop 1 rest)) == 0)) e
  where
    go : (is takes : Bool) → cond is (cond takes (with_value is_ds duplication kind (Some (take_while (is_digit 10) (drop 1 rest))) (after_digits (drop 1 rest))) (Err BadOperand))
        (with_value is_ds duplication kind None rest) ≡ Ok item → Modified item.kind item.modifier
    go true true e = value_modified is_ds duplication kind (Some (take_while (is_digit 10) (drop 1 rest))) (after_digits (drop 1 rest)) item e
    go true false e = cc
    go false takes e = value_modified is_ds duplication kind None rest item e

constant_modified : (is_ds : Bool) (text : List ℕ) (item : Constant) → constant_in is_ds text ≡ Ok item → Modified item.kind item.modifier
unfolding constant_in
constant_modified is_ds text item e =
    kind_modified is_ds (take_while (is_digit 10) text) (drop 1 (after_digits text)) (kind_of (slice_index (after_digits text) 0)) item e

made_fits : (find : List ℕ → Option Value) (here : Option Value) (control : Option (List ℕ)) (item : Constant) (m : CopyOfConstant) → Modified item.kind item.modifier
    → constant_copy find here control item ≡ Ok m → MadeFits m (length_of item)
unfolding constant_copy length_of
made_fits find here control item m is e = body_fits find here control item.kind item.modifier item.value m is e

-- one copy of an item
pub item_fits : (whole : Whole) (counter : Option Value) (text : List ℕ) (item : Constant) (m : CopyOfConstant) → constant_in false text ≡ Ok item → item_made whole false counter text ≡ Ok m → MadeFits m (length_of item)
item_fits whole counter text item m e h =
    made_fits whole.find counter whole.control item m (constant_modified false text item e)
    (subst (λ r. judged_as (constant_copy whole.find counter whole.control) r ≡ Ok m) e h)
