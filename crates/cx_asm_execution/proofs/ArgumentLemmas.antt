-- An operand as it is written and as it is resolved.
use Rattle.std.specs.Prelude.{Result, Err, ℤ, pos, slice_get, option_map, int_le, ◌&&◌}
use Rattle.std.proofs.Common.{◌≡◌, ℕ, negsuc, ◌+◌, Bool, true, false, cond, Option, Some, None, Ok, List, [], ◌∷◌, refl, sym, ◌∙◌, ap, subst, arith}
use Rattle.std.specs.Option.{ok_or, option_map_or}
use Rattle.std.proofs.lemmas.Option.{none-some}
use Rattle.cx_ebcdic.specs.Facts.Names.{is_name-decides}
use Rattle.cx_storage.specs.Address.{address_in, address_after}
use Rattle.cx_exec.specs.Machine.{effective, address_part}
use Rattle.cx_asm_expressions.specs.declared.faults.FaultKind.{FaultKind}
use Rattle.cx_asm_expressions.specs.declared.faults.FaultKind.TheVariants.{BadOperand, NoAddressability, ValueOutOfRange}
use Rattle.cx_asm_expressions.specs.declared.values.Value.{Value}
use Rattle.cx_asm_operands.specs.Addresses.{address, address_by_bases as addressed_in, number_within, implied_address, nearest_address}
use Rattle.cx_asm_operands.specs.Bases.{Bases}
use Rattle.cx_asm_operands.specs.Context.{Context, number_at_most, register_in}
use Rattle.cx_asm_operands.specs.Checking.{both_or_lower_fault, then_check, with_made}
use Rattle.cx_asm_operands.specs.Laws.AddressLaws.{Holds, IsNearest}
use Rattle.cx_asm_operands.specs.Storage.{Operand, too_many_subfields, explicit_address, index_in, indexed_by, indexed_in, operand_in}
use Rattle.cx_asm_operands.specs.declared.addresses.Address.{Address}
use Rattle.cx_asm_operands.specs.declared.bases.Base.{Base}
use Rattle.cx_asm_execution.specs.Arguments.{HoldsBase, IsAddressed, IsAddressedBy, IsPlaceOf, Sections}
use Rattle.cx_asm_execution.proofs.Arguments.{OperandsAddress}

abbrev pub Nearest : Type 0
Nearest = (bases : Bases) (section : List ℕ) (number : ℤ) → IsNearest bases section number (nearest_address bases section number)

-- ---- what was judged
pub both_ok : {A B : Type 0} (one : Result A FaultKind) (other : Result B FaultKind) (a : A) (b : B) → both_or_lower_fault one other ≡ Ok (a, b) → (one ≡ Ok a) × (other ≡ Ok b)
both_ok {A} {B} (Ok one) (Ok other) a b e = (let same : ◌≡◌ {A = A × B} (one, other) (a, b) = cc in (ap (λ p. Ok p.0) same, ap (λ p. Ok p.1) same))
both_ok {A} {B} (Ok one) (Err fault) a b e = absurd (cc)
both_ok {A} {B} (Err fault) (Ok other) a b e = absurd (cc)
both_ok {A} {B} (Err one) (Err other) a b e = absurd (cc)

pub judged_ok : {A B : Type 0} (judge : A → Result B FaultKind) (of : Result A FaultKind) (b : B) → then_check judge of ≡ Ok b → (a : A) × (of ≡ Ok a) × (judge a ≡ Ok b)
judged_ok judge (Ok value) b e = (value, refl, e)
judged_ok judge (Err fault) b e = absurd (cc)

pub made_ok : {A B : Type 0} (make : A → B) (of : Result A FaultKind) (b : B) → with_made make of ≡ Ok b → (a : A) × (of ≡ Ok a) × (make a ≡ b)
made_ok make (Ok value) b e = (value, refl, cc)
made_ok make (Err fault) b e = absurd (cc)

pub or_ok : {A : Type 0} (found : Option A) (fault : FaultKind) (a : A) → ok_or found fault ≡ Ok a → found ≡ Some a
or_ok (Some found) fault a e = cc
or_ok None fault a e = absurd (cc)

-- ---- an implied address
pub absolute_is : (number : ℤ) (at : Address) → option_map (address 0) (number_within 4095 number) ≡ Some at → (at.base ≡ 0) × (number ≡ pos at.displacement)
absolute_is (pos n) at e = go (int_le (pos 0) (pos n) && int_le (pos n) (pos 4095)) e
  where
    go : (b : Bool) → option_map (address 0) (cond b (Some n) None) ≡ Some at → (at.base ≡ 0) × (pos n ≡ pos at.displacement)
    go true e = (let same : address 0 n ≡ at = cc in (sym (ap (λ k. k.base) same), ap (λ k. pos k.displacement) same))
    go false e = absurd (cc)
absolute_is (negsuc n) at e = absurd (none-some at e)

at_register : (sections : Sections) (regs : List ℕ) (bases : Bases) (register d x : ℕ) (section : List ℕ) (number : ℤ) (held : Option (Option Base)) → slice_get bases register ≡ held
    → Holds held section number d → HoldsBase sections regs bases register → effective regs x register d ≡ address_after (sections.place section number) (address_part regs x)
unfolding effective
at_register sections regs bases register d x section number None is holds h = absurd holds
at_register sections regs bases register d x section number (Some None) is holds h = absurd holds
at_register sections regs bases register d x section number (Some (Some base)) is holds h =
    let same : base.section ≡ section = (is_name-decides base.section section).0 holds.0 in
    let place : sections.place section number ≡ address_after (sections.place base.section base.number) d =
    ap (sections.place section) (sym holds.1) ∙ sections.after section base.number d ∙ ap (λ s. address_after (sections.place s base.number) d) (sym same) in
    let held : address_in (address_part regs register) ≡ sections.place base.section base.number = h base is in
    rw (place, ← held) (modulo (address_part regs register) (address_part regs x) d)
  where
    modulo : (b i n : ℕ) → address_in (b + i + n) ≡ address_after (address_after (address_in b) n) i
    modulo b i n = omega arith

pub implied_is : Nearest → (sections : Sections) (regs : List ℕ) (bases : Bases) (section : Option (List ℕ)) (number : ℤ) (at : Address) (x : ℕ) → addressed_in bases section number ≡ Ok at
    → IsPlaceOf sections regs bases section number x at
unfolding effective
implied_is near sections regs bases None number at x e =
    λ n is.
    let found = absolute_is number at (or_ok (option_map (address 0) (number_within 4095 number)) ValueOutOfRange at e) in
    let d : at.displacement ≡ n = same_number (sym found.1 ∙ is) in
    rw (found.0, d) (modulo (address_part regs x) n)
  where
    same_number : {a b : ℕ} → pos a ≡ pos b → a ≡ b
    same_number e = cc

    modulo : (i n : ℕ) → address_in (0 + i + n) ≡ address_after n i
    modulo i n = omega arith
implied_is near sections regs bases (Some section) number at x e =
    let found : nearest_address bases section number ≡ Some at = or_ok (nearest_address bases section number) NoAddressability at e in
    let reaches = subst (IsNearest bases section number) found (near bases section number) in
    at_register sections regs bases at.base at.displacement x section number (slice_get bases at.base) refl reaches.0

-- ---- by what is in parentheses
record IsBy (sections : Sections) (regs : List ℕ) (c : Context) (place : Result Value FaultKind) (subfields : List (List ℕ)) (x : ℕ) (at : Address) : Type 0 where
  value : Value
  expression_value : place ≡ Ok value
  by : IsAddressedBy sections regs c value subfields x at

addressed_by : Nearest → (sections : Sections) (regs : List ℕ) (c : Context) (place : Result Value FaultKind) (subfields : List (List ℕ)) (x : ℕ) (at : Address)
    → indexed_by c place subfields ≡ Ok (x, at) → IsBy sections regs c place subfields x at
addressed_by near sections regs c place [] x at e =
    let parts = both_ok (Ok 0) (then_check (implied_address c.bases) place) x at e in
    let v = judged_ok (implied_address c.bases) place at parts.1 in
    let none : x ≡ 0 = (let same = parts.0 in cc) in
    record { value = v.0; expression_value = v.1; by = (none, implied_is near sections regs c.bases (v.0).section (v.0).number at x v.2) }
addressed_by near sections regs c place (index ∷ []) x at e =
    let parts = both_ok (register_in c index) (then_check (implied_address c.bases) place) x at e in
    let v = judged_ok (implied_address c.bases) place at parts.1 in
    record { value = v.0; expression_value = v.1; by = (parts.0, implied_is near sections regs c.bases (v.0).section (v.0).number at x v.2) }
addressed_by near sections regs c place (index ∷ base ∷ []) x at e =
    let parts = both_ok (index_in c index) (explicit_address c place base) x at e in
    let made = made_ok (λ v. address v.1 v.0) (both_or_lower_fault (then_check (number_at_most 4095) place) (register_in c base)) at parts.1 in
    let pair = both_ok (then_check (number_at_most 4095) place) (register_in c base) (made.0).0 (made.0).1 made.1 in
    let v = judged_ok (number_at_most 4095) place (made.0).0 pair.0 in
    record {
      value = v.0;
      expression_value = v.1;
      by = (parts.0, pair.1 ∙ ap (λ k. Ok k.base) made.2, v.2 ∙ ap (λ k. Ok k.displacement) made.2);
    }
addressed_by near sections regs c place (index ∷ base ∷ other ∷ more) x at e =
    absurd (no_crowd (both_ok (index_in c index) (too_many_subfields c (explicit_address c place base) (other ∷ more)) x at e).1)
  where
    no_crowd : too_many_subfields c (explicit_address c place base) (other ∷ more) ≡ Ok at → ⊥
    no_crowd e = cc

pub operands_address : Nearest → OperandsAddress
unfolding indexed_in
operands_address near sections regs c text x at e = go (operand_in true c text) refl e
  where
    go : (found : Option Operand) → operand_in true c text ≡ found → option_map_or (λ (o : Operand). indexed_by c o.place o.subfields) found (Err BadOperand) ≡ Ok (x, at) → IsAddressed sections regs c text x at
    go None is e = absurd (cc)
    go (Some operand) is e =
        let by = addressed_by near sections regs c operand.place operand.subfields x at e in
        record { operand = operand; is = is; value = by.value; expression_value = by.expression_value; by = by.by }
