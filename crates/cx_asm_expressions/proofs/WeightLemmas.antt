-- Lemmas on the weights of sections.
use Rattle.std.proofs.Common.{◌≡◌, ℕ, ◌+◌, ◌≤◌, Bool, true, false, Option, List, [], ◌∷◌, drop, length, get_or, ◌<◌, add-one, refl, ap, ◌∙◌, Some, cond, unwrap_or, arith}
use Rattle.std.specs.Prelude.{ℤ, pos, ◌+ℤ◌, unsigned_abs}
use Rattle.std.proofs.lemmas.Int.{ints}
use Rattle.std.specs.Map.{lookup}
use Rattle.indexmap.specs.IndexMap.{insert_entry}
use Rattle.cx_asm_expressions.specs.Names.{is_same}
use Rattle.cx_asm_expressions.specs.Parts.Sections.{Weights, put, unit, weights_from}
use Rattle.cx_asm_expressions.specs.declared.terms.Sign.{Sign}
use Rattle.cx_asm_expressions.specs.declared.terms.Sign.TheVariants.{Plus, Minus}
use Rattle.cx_asm_expressions.specs.declared.expressions.Signed.{Signed}
use Rattle.cx_asm_expressions.proofs.TermLemmas.{drop_item}

-- what was there and what comes to it, put back
pub put_as_inserted : (name : List ℕ) (more : ℤ) (entries : Weights)
    → insert_entry is_same entries name (unwrap_or (lookup (is_same name) entries) (pos 0) +ℤ more) ≡ put name more entries
put_as_inserted name more [] = ap (λ w. (name, w) ∷ []) (omega (arith, ints))
put_as_inserted name more (entry ∷ entries) =
    elim (is_same name entry.0) as (λ b. cond b ((entry.0, unwrap_or (cond b (Some entry.1) (lookup (is_same name) entries)) (pos 0) +ℤ more) ∷ entries)
    (entry ∷ insert_entry is_same entries name (unwrap_or (cond b (Some entry.1) (lookup (is_same name) entries)) (pos 0) +ℤ more))
    ≡ cond b ((entry.0, entry.1 +ℤ more) ∷ entries) (entry ∷ put name more entries))
    [ true ↦ refl | false ↦ ap (λ es. entry ∷ es) (put_as_inserted name more entries) ]

light_sum : (w more : ℤ) (i : ℕ) → unsigned_abs w ≤ i → unsigned_abs more ≤ 1 → unsigned_abs (w +ℤ more) ≤ i + 1
light_sum w more i a b = omega (arith, ints)

unit_light : (sign : Sign) → unsigned_abs (unit sign) ≤ 1
unit_light Plus = omega arith
unit_light Minus = omega arith

-- a sum increases by at most one
light_more : (b : Bool) (old new : Option ℤ) (w more : ℤ) (i : ℕ) → new ≡ cond b (Some (w +ℤ more)) old
    → unsigned_abs (unwrap_or old (pos 0)) ≤ i → unsigned_abs w ≤ i → unsigned_abs more ≤ 1 → unsigned_abs (unwrap_or new (pos 0)) ≤ i + 1
light_more true old new w more i e a b d = rw e (light_sum w more i b d)
light_more false old new w more i e a b d = rw e (omega arith)

pub light_step : (b : Bool) (old new : Option ℤ) (w : ℤ) (sign : Sign) (i : ℕ) → new ≡ cond b (Some (w +ℤ unit sign)) old
    → unsigned_abs (unwrap_or old (pos 0)) ≤ i → unsigned_abs w ≤ i → unsigned_abs (unwrap_or new (pos 0)) ≤ i + 1
light_step b old new w sign i e one other = light_more b old new w (unit sign) i e one other (unit_light sign)

-- one value more
pub weights_more : (entries after : Weights) (values : List Signed) (value : Signed) (name : List ℕ) (i : ℕ) (whole : Weights)
    → i < length values → value ≡ get_or values i value → value.value.section ≡ Some name
    → after ≡ insert_entry is_same entries name (unwrap_or (lookup (is_same name) entries) (pos 0) +ℤ unit value.sign)
    → weights_from entries (drop i values) ≡ whole → weights_from after (drop (i + 1) values) ≡ whole
weights_more entries after values value name i whole within at_i named e before =
    let one = drop_item values i value within at_i in
    let there = e ∙ put_as_inserted name (unit value.sign) entries in
    rw (there, add-one) (rw (one, named) at before)
