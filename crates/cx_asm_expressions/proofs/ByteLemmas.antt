-- One step more of the loops over bytes and values.
use Rattle.std.proofs.Common.{◌≡◌, ℕ, zero, suc, ◌+◌, ◌-◌, ◌*◌, ◌<◌, false, Option, Some, List, [], ◌∷◌, ◌++◌, Ok, Err, length, get_or, drop, map, add-one, append_assoc, refl, sym, ap, ◌∙◌, arith}
use denote.Ref.{Bor}
use Rattle.std.specs.List.{flat_map}
use Rattle.std.specs.Option.{option_map_or}
use Rattle.cx_asm_expressions.specs.Faults.{lower, lowest}
use Rattle.cx_asm_expressions.specs.Kinds.{half_byte, half_bytes, row_of_kind}
use Rattle.cx_asm_expressions.specs.Bytes.{copy_of_constant, plain_made}
use Rattle.cx_asm_expressions.specs.Items.{value_length, values_in}
use Rattle.cx_asm_expressions.specs.declared.kinds.ConstantKind.{ConstantKind}
use Rattle.cx_asm_expressions.specs.declared.faults.FaultKind.{FaultKind}
use Rattle.cx_asm_expressions.specs.Facts.Faults.{lower_in_turn}
use Rattle.std.proofs.Math.Seq.{drop-cons}

half_step : (kind : ConstantKind) (value : List ℕ) (left : ℕ) → 0 < left
    → half_bytes kind value left ≡ (half_byte kind value ((left - 1) * 2 + 1) * 16 + half_byte kind value ((left - 1) * 2)) ∷ half_bytes kind value (left - 1)
half_step kind value zero some = absurd (omega arith)
half_step kind value (suc r) some = let e : suc r - 1 ≡ r = omega arith in rw e refl

pub half_more : (front : List ℕ) (kind : ConstantKind) (value : List ℕ) (left : ℕ) (whole : List ℕ) → 0 < left
    → front ++ half_bytes kind value left ≡ whole
    → (front ++ (half_byte kind value ((left - 1) * 2 + 1) * 16 + half_byte kind value ((left - 1) * 2)) ∷ []) ++ half_bytes kind value (left - 1) ≡ whole
half_more front kind value left whole some e =
    let step = half_step kind value left some in
    rw append_assoc (rw step at e)

abbrev pub values_fault : ConstantKind → Option ℕ → List (List ℕ) → Option FaultKind
values_fault kind modifier values = lowest (map (λ value. (row_of_kind kind).fault value (value_length kind modifier value)) values)

abbrev pub values_bytes : ConstantKind → Option ℕ → List (List ℕ) → List ℕ
values_bytes kind modifier values = flat_map (λ value. (row_of_kind kind).bytes value (value_length kind modifier value)) values

pub value_fault_more : (kind : ConstantKind) (modifier : Option ℕ) (fault : Option FaultKind) (values : List (Bor (List ℕ))) (d : Bor (List ℕ)) (i : ℕ) (whole : Option FaultKind)
    → i < length values
    → lower fault (values_fault kind modifier (map (λ v. v.now) (drop i values))) ≡ whole
    → lower (lower fault ((row_of_kind kind).fault (get_or values i d).now (value_length kind modifier (get_or values i d).now))) (values_fault kind modifier (map (λ v. v.now) (drop (i + 1) values))) ≡ whole
value_fault_more kind modifier fault values d i whole within e =
    let one = drop-cons values i d within in
    rw (add-one, lower_in_turn) (rw one at e)

pub value_bytes_more : (kind : ConstantKind) (modifier : Option ℕ) (front : List ℕ) (values : List (Bor (List ℕ))) (d : Bor (List ℕ)) (i : ℕ) (whole : List ℕ)
    → i < length values
    → front ++ values_bytes kind modifier (map (λ v. v.now) (drop i values)) ≡ whole
    → (front ++ (row_of_kind kind).bytes (get_or values i d).now (value_length kind modifier (get_or values i d).now)) ++ values_bytes kind modifier (map (λ v. v.now) (drop (i + 1) values)) ≡ whole
value_bytes_more kind modifier front values d i whole within e =
    let one = drop-cons values i d within in
    rw (add-one, append_assoc) (rw one at e)

-- where a value has a fault no bytes are made
pub made_fault : (kind : ConstantKind) (modifier : Option ℕ) (body : List ℕ) (values : List (List ℕ)) (fault : FaultKind) → values ≡ values_in (row_of_kind kind).style body
    → values_fault kind modifier values ≡ Some fault → plain_made kind modifier body ≡ Err fault
made_fault kind modifier body values fault is e =
    ap (λ vs. option_map_or Err (values_fault kind modifier vs) (Ok (copy_of_constant (values_bytes kind modifier vs) false))) (sym is)
    ∙ ap (λ (f : Option FaultKind). option_map_or Err f (Ok (copy_of_constant (values_bytes kind modifier values) false))) e
