-- The values of the words of the argument list, as expressions.
use Rattle.std.specs.Prelude.{codes, decimal, nat_le, pos, unsigned_abs, ◌&&◌, Err, ℤ, ◌+ℤ◌, option_and_then, option_map}
use Rattle.std.specs.Option.{ok_or, option_map_or}
use Rattle.std.specs.Result.{result_err, result_ok}
use Rattle.std.specs.List.{cons_option}
use Rattle.std.specs.List.{list_all}
use Rattle.std.proofs.Math.IntN.{+ℤ_idl, +ℤ_idr}
use Rattle.std.proofs.Common.{Result, ◌≡◌, ◌<◌, ℕ, ◌+◌, ◌*◌, ◌^◌, Bool, true, false, cond, ◌==◌, Option, Some, None, Ok, List, [], ◌∷◌, ◌++◌, length, map, refl, sym, ◌∙◌, ap, subst, arith}
use Rattle.std.proofs.lemmas.Bool.Decides.{nat_tests}
use Rattle.cx_ebcdic.specs.Facts.Names.{is_name-decides}
use Rattle.cx_ebcdic.specs.Lookup.{each_some}
use Rattle.cx_source.specs.Lines.{is_letter, is_symbol_name, is_symbol_name_character}
use Rattle.cx_source.specs.Marks.{scan_depth_after, first_from, is_mark, lies_outside, scan_after, within_after}
use Rattle.cx_source.specs.declared.marks.Delimiter.TheVariants.{Parenthesis}
use Rattle.cx_source.specs.declared.marks.Scan.{Scan}
use Rattle.cx_asm_expressions.specs.Digits.{bound, is_digit, number_in}
use Rattle.cx_asm_expressions.specs.Expressions.{value_or_fault, sum_from, sum_of_values, value_of, sum_of_terms, within_bound}
use Rattle.cx_asm_expressions.specs.Faults.{lower}
use Rattle.cx_asm_expressions.specs.Names.{is_same}
use Rattle.cx_asm_expressions.specs.Symbols.{absolute}
use Rattle.cx_asm_expressions.specs.Terms.{parts_of, part_of, read_term, term_of, terms_of}
use Rattle.cx_asm_expressions.specs.Weights.{relocation}
use Rattle.cx_asm_expressions.specs.TermValues.{greatest, look_up, number_value, term_value}
use Rattle.cx_asm_expressions.specs.declared.faults.FaultKind.{FaultKind}
use Rattle.cx_asm_expressions.specs.declared.faults.FaultKind.TheVariants.{BadOperand, UndefinedSymbol, ValueOutOfRange}
use Rattle.cx_asm_expressions.specs.declared.expressions.Signed.{Signed}
use Rattle.cx_asm_expressions.specs.declared.terms.Sign.{Sign}
use Rattle.cx_asm_expressions.specs.declared.terms.Sign.TheVariants.{Plus}
use Rattle.cx_asm_expressions.specs.declared.terms.TermKind.TheVariants.{Decimal, Symbol}
use Rattle.cx_asm_expressions.specs.declared.values.Value.{Value}
use Rattle.cx_storage.specs.Address.{address_after}
use Rattle.cx_asm_operands.specs.Addresses.{address as at_register, address_by_bases, number_within, implied_address}
use Rattle.cx_asm_operands.specs.Bases.{Bases}
use Rattle.cx_asm_operands.specs.Context.{Context, expression_value}
use Rattle.cx_asm_operands.specs.Checking.{both_or_lower_fault, then_check}
use Rattle.cx_asm_operands.specs.Storage.{indexed_by, indexed_in, operand, operand_in, plain_in, Operand, address_by_subfields}
use Rattle.cx_asm_operands.specs.declared.addresses.Address.{Address}
use Rattle.cx_asm_execution.specs.Arguments.{IsAddressedBy, IsPlaceOf}
use Rattle.cx_asm_execution.proofs.Arguments.{OperandsAddress}
use Rattle.cx_asm_execution.proofs.Stores.{word_of_list}
use Rattle.cx_asm_execution.proofs.Words.{HasSomeList, LieAfter, LiesAfter, ListIsPlaced, ListLies, WordsLie}
use Rattle.cx_asm_execution.proofs.ArgumentLemmas.{both_ok}
use Rattle.cx_asm_laws.specs.Facts.Plain.{ArePlain, decimal_plain, decimal_read, decimal_term, neither, other, plain_part}

-- ---- the terms
symbol_term : read_term (part_of Plus (codes "DFHEIPL")) ≡ Some (term_of Plus Symbol (codes "DFHEIPL"))
unfolding read_term is_symbol_name is_letter is_symbol_name_character
symbol_term = refl

parts_are : (text : List ℕ) → ArePlain text → parts_of (codes "DFHEIPL+" ++ text) ≡ part_of Plus (codes "DFHEIPL") ∷ part_of Plus text ∷ []
unfolding within_after scan_depth_after
parts_are text plain =
    ap (λ k. part_of Plus (codes "DFHEIPL") ∷ k) (plain_part Plus (record { within = false; depth = 0; before = 76; last = 43 }) [] text plain)

terms_are : (text : List ℕ) → ArePlain text → list_all (is_digit 10) text ≡ true → 0 < length text
    → terms_of (codes "DFHEIPL+" ++ text) ≡ Some (term_of Plus Symbol (codes "DFHEIPL") ∷ term_of Plus Decimal text ∷ [])
unfolding terms_of
terms_are text plain all some =
    ap (λ k. each_some (map read_term k)) (parts_are text plain) ∙ rw (symbol_term, decimal_term text plain all some) refl

one_term : terms_of (codes "DFHEIPL") ≡ Some (term_of Plus Symbol (codes "DFHEIPL") ∷ [])
unfolding terms_of within_after scan_depth_after read_term is_symbol_name is_letter is_symbol_name_character
one_term = refl

-- ---- the sum
pub record IsAt (place : List ℕ) (offset : ℤ) (value : Value) : Type 0 where
  pub section : value.section ≡ Some place
  pub number : value.number ≡ offset

abbrev signed : Sign → Value → Signed
signed sign value = record { sign = sign; value = value }

abbrev at : List ℕ → ℤ → ℕ → Value
at section number length = record { section = Some section; number = number; length = length }

symbol_value : (find : List ℕ → Option Value) (here : Option Value) (value : Value) → look_up find (codes "DFHEIPL") ≡ Some value
    → term_value find here (term_of Plus Symbol (codes "DFHEIPL")) ≡ Ok value
unfolding term_value
symbol_value find here value is = ap (λ k. ok_or k UndefinedSymbol) is

decimal_value : (find : List ℕ → Option Value) (here : Option Value) (text : List ℕ) (n : ℕ) → number_in 10 text ≡ n
    → term_value find here (term_of Plus Decimal text) ≡ number_value greatest n
unfolding term_value
decimal_value find here text n is = ap (number_value greatest) is

within_is : (number sum : ℤ) → within_bound number ≡ Some sum → number ≡ sum
within_is number sum e = go (nat_le (unsigned_abs number) bound) e
  where
    go : (b : Bool) → cond b (Some number) None ≡ Some sum → number ≡ sum
    go true e = cc
    go false e = absurd (cc)

placed : (section : List ℕ) (number : ℤ) (length : ℕ) (o : Option ℤ) (value : Value) → ((sum : ℤ) → o ≡ Some sum → sum ≡ number)
    → value_or_fault o (Some (Some section)) length ≡ Ok value → IsAt section number value
placed section number length None value is e = absurd (cc)
placed section number length (Some sum) value is e =
    let same : at section sum length ≡ value = cc in
    record { section = ap (λ v. v.section) (sym same); number = ap (λ v. v.number) (sym same) ∙ is sum refl }

-- a sum's only place
same_section : (section : List ℕ) → is_same section section ≡ true
same_section section = (is_name-decides section section).1 refl

one_place : (section : List ℕ) (number : ℤ) (length : ℕ) → relocation (record { sign = Plus; value = at section number length } ∷ []) ≡ Some (Some section)
unfolding relocation
one_place section number length = rw (same_section section) refl

two_places : (section : List ℕ) (number : ℤ) (length n : ℕ)
    → relocation (record { sign = Plus; value = at section number length } ∷ record { sign = Plus; value = absolute (pos n) } ∷ []) ≡ Some (Some section)
unfolding relocation
two_places section number length n = rw (same_section section) refl

one_sum : (section : List ℕ) (number : ℤ) (length : ℕ) (value : Value) → sum_of_values (record { sign = Plus; value = at section number length } ∷ []) ≡ Ok value → IsAt section number value
unfolding sum_of_values
one_sum section number length value e =
    let values : List Signed = record { sign = Plus; value = at section number length } ∷ [] in
    placed section number length (sum_from (pos 0) values) value total
    (subst (λ r. value_or_fault (sum_from (pos 0) values) r length ≡ Ok value) (one_place section number length) e)
  where
    total : (sum : ℤ) → sum_from (pos 0) (record { sign = Plus; value = at section number length } ∷ []) ≡ Some sum → sum ≡ number
    total sum e = go (within_bound (pos 0 +ℤ number)) refl e
      where
        go : (o : Option ℤ) → within_bound (pos 0 +ℤ number) ≡ o → option_and_then (λ sum. Some sum) o ≡ Some sum → sum ≡ number
        go None is e = absurd (cc)
        go (Some first) is e = (let same : first ≡ sum = cc in sym same ∙ sym (within_is (pos 0 +ℤ number) first is) ∙ +ℤ_idl number)

two_sum : (section : List ℕ) (number : ℤ) (length n : ℕ) (value : Value)
    → sum_of_values (record { sign = Plus; value = at section number length } ∷ record { sign = Plus; value = absolute (pos n) } ∷ []) ≡ Ok value → IsAt section (number +ℤ pos n) value
unfolding sum_of_values
two_sum section number length n value e =
    let values : List Signed = record { sign = Plus; value = at section number length } ∷ record { sign = Plus; value = absolute (pos n) } ∷ [] in
    placed section (number +ℤ pos n) length (sum_from (pos 0) values) value total
    (subst (λ r. value_or_fault (sum_from (pos 0) values) r length ≡ Ok value) (two_places section number length n) e)
  where
    total : (sum : ℤ) → sum_from (pos 0) (record { sign = Plus; value = at section number length } ∷ record { sign = Plus; value = absolute (pos n) } ∷ []) ≡ Some sum → sum ≡ number +ℤ pos n
    total sum e = go (within_bound (pos 0 +ℤ number)) refl e
      where
        then : (first : ℤ) (o : Option ℤ) → within_bound (pos 0 +ℤ number) ≡ Some first → within_bound (first +ℤ pos n) ≡ o → option_and_then (λ sum. Some sum) o ≡ Some sum → sum ≡ number +ℤ pos n
        then first None is more e = absurd (cc)
        then first (Some second) is more e =
            let same : second ≡ sum = cc in
            let start : first ≡ number = sym (within_is (pos 0 +ℤ number) first is) ∙ +ℤ_idl number in
            sym same ∙ sym (within_is (first +ℤ pos n) second more) ∙ ap (λ k. k +ℤ pos n) start

        go : (o : Option ℤ) → within_bound (pos 0 +ℤ number) ≡ o → option_and_then (λ sum. option_and_then (λ sum. Some sum) (within_bound (sum +ℤ pos n))) o ≡ Some sum → sum ≡ number +ℤ pos n
        go None is e = absurd (cc)
        go (Some first) is e = then first (within_bound (first +ℤ pos n)) is refl e

-- ---- the expressions
pub list_value : (find : List ℕ → Option Value) (here : Option Value) (section : List ℕ) (number : ℤ) (length : ℕ) (value : Value)
    → look_up find (codes "DFHEIPL") ≡ Some (at section number length) → value_of find here (codes "DFHEIPL") ≡ Ok value → IsAt section number value
unfolding value_of
list_value find here section number length value known e =
    let terms : sum_of_terms find here (Some (term_of Plus Symbol (codes "DFHEIPL") ∷ [])) ≡ Ok value = subst (λ k. sum_of_terms find here k ≡ Ok value) one_term e in
    let found = symbol_value find here (at section number length) known in
    one_sum section number length value (rw found at terms)

word_value : (find : List ℕ → Option Value) (here : Option Value) (section : List ℕ) (number : ℤ) (length n : ℕ) (value : Value)
    → look_up find (codes "DFHEIPL") ≡ Some (at section number length) → n < 2 ^ 64 → value_of find here (codes "DFHEIPL+" ++ decimal n) ≡ Ok value → IsAt section (number +ℤ pos n) value
unfolding value_of
word_value find here section number length n value known small e =
    let read = decimal_read n small in
    let terms : sum_of_terms find here (Some (term_of Plus Symbol (codes "DFHEIPL") ∷ term_of Plus Decimal (decimal n) ∷ [])) ≡ Ok value =
    subst (λ k. sum_of_terms find here k ≡ Ok value) (terms_are (decimal n) (decimal_plain n) read.all read.some) e in
    let first = symbol_value find here (at section number length) known in
    let second = decimal_value find here (decimal n) n read.number in
    go (nat_le n greatest) (rw (first, second) at terms)
  where
    go : (b : Bool) → option_map_or Err (lower None (lower (result_err (cond b (Ok (absolute (pos n))) (Err ValueOutOfRange))) None))
        (sum_of_values (cons_option (Some (signed Plus (at section number length))) (cons_option (option_map (signed Plus) (result_ok (cond b (Ok (absolute (pos n))) (Err ValueOutOfRange)))) []))) ≡ Ok value → IsAt section (number +ℤ pos n) value
    go true e = two_sum section number length n value e
    go false e = absurd (cc)

-- ---- texts without parentheses
pub no_parenthesis : (scan : Scan) (text : List ℕ) → ArePlain text → first_from Parenthesis scan text ≡ length text
no_parenthesis scan [] h = refl
no_parenthesis scan (c ∷ text) h =
    let none : (lies_outside scan c text && is_mark Parenthesis scan.depth c) ≡ false = rw (other c 40 h.0 (omega arith), other c 41 h.0 (omega arith)) (neither (lies_outside scan c text)) in
    rw (none, no_parenthesis (scan_after scan c text) text h.1) (omega arith)

-- an operand that is an expression alone
IsAlone : Context → List ℕ → Type 0
IsAlone c text = (takes : Bool) → operand_in takes c text ≡ Some (operand (expression_value c text) [])

list_alone : (c : Context) → IsAlone c (codes "DFHEIPL")
unfolding IsAlone operand_in within_after scan_depth_after
list_alone c takes = refl

word_alone : (c : Context) (text : List ℕ) → ArePlain text → IsAlone c (codes "DFHEIPL+" ++ text)
unfolding IsAlone operand_in within_after scan_depth_after
word_alone c text plain takes =
    let tail = no_parenthesis (record { within = false; depth = 0; before = 76; last = 43 }) text plain in
    let same : (1 + (1 + (1 + (1 + (1 + (1 + (1 + (1 + length text))))))) == length (codes "DFHEIPL+" ++ text)) ≡ true = grind (arith, nat_tests) in
    rw (tail, same) refl

-- ---- base and displacement
implied : (c : Context) (text : List ℕ) (x : ℕ) (address : Address) → IsAlone c text → indexed_in c text ≡ Ok (x, address)
    → (x ≡ 0) × (then_check (implied_address c.bases) (expression_value c text) ≡ Ok address)
unfolding IsAlone indexed_in
implied c text x address alone e =
    let found : indexed_by c (expression_value c text) [] ≡ Ok (x, address) = subst (λ o. option_map_or (λ (o : Operand). indexed_by c o.place o.subfields) o (Err BadOperand) ≡ Ok (x, address)) (alone true) e in
    let parts = both_ok (Ok 0) (then_check (implied_address c.bases) (expression_value c text)) x address found in
    ((let same = parts.0 in cc), parts.1)

implied_plain : (c : Context) (text : List ℕ) (address : Address) → IsAlone c text → plain_in false c text ≡ Ok address
    → then_check (implied_address c.bases) (expression_value c text) ≡ Ok address
unfolding IsAlone plain_in
implied_plain c text address alone e = subst (λ o. option_map_or (λ (o : Operand). address_by_subfields c o.place o.subfields) o (Err BadOperand) ≡ Ok address) (alone false) e

indexed_again : (c : Context) (text : List ℕ) (address : Address) → IsAlone c text → then_check (implied_address c.bases) (expression_value c text) ≡ Ok address → indexed_in c text ≡ Ok (0, address)
unfolding IsAlone indexed_in
indexed_again c text address alone e = ap (λ o. option_map_or (λ (o : Operand). indexed_by c o.place o.subfields) o (Err BadOperand)) (alone true) ∙ ap (λ a. both_or_lower_fault (Ok 0) a) e

-- of an operand without parentheses, by its value
pub lies_at : OperandsAddress → (c : Context) (text section : List ℕ) (offset : ℤ) (n : ℕ) (address : Address) (place : Result Value FaultKind)
    → operand_in true c text ≡ Some (operand place []) → ((value : Value) → place ≡ Ok value → IsAt section (offset +ℤ pos n) value)
    → indexed_in c text ≡ Ok (0, address) → LiesAfter c section offset n address
lies_at addresses c text section offset n address place written valued e sections regs holds =
    let a = addresses sections regs c text 0 address e in
    let own : operand place [] ≡ a.operand = (let found : Some (operand place []) ≡ Some a.operand = sym written ∙ a.is in cc) in
    let found : place ≡ Ok a.value = ap (λ o. o.place) own ∙ a.expression_value in
    let by : IsAddressedBy sections regs c a.value [] 0 address = subst (λ l. IsAddressedBy sections regs c a.value l 0 address) (ap (λ o. o.subfields) (sym own)) a.by in
    let at = valued a.value found in
    let there : IsPlaceOf sections regs c.bases (Some section) (offset +ℤ pos n) 0 address =
    subst (λ v. IsPlaceOf sections regs c.bases (Some section) v 0 address) at.number
    (subst (λ s. IsPlaceOf sections regs c.bases s a.value.number 0 address) at.section by.1) in
    there holds ∙ ap (λ p. address_after p 0) (sections.after section offset n) ∙ modulo (sections.place section offset) n
  where
    modulo : (p n : ℕ) → address_after (address_after p n) 0 ≡ address_after p n
    modulo p n = omega arith

lies : OperandsAddress → (c : Context) (text section : List ℕ) (offset : ℤ) (n : ℕ) (address : Address) → IsAlone c text
    → ((value : Value) → expression_value c text ≡ Ok value → IsAt section (offset +ℤ pos n) value) → then_check (implied_address c.bases) (expression_value c text) ≡ Ok address
    → LiesAfter c section offset n address
unfolding IsAlone
lies addresses c text section offset n address alone valued e =
    lies_at addresses c text section offset n address (expression_value c text) (alone true) valued (indexed_again c text address alone e)

both_lie : OperandsAddress → (c : Context) (text section : List ℕ) (offset : ℤ) (n : ℕ) → IsAlone c text
    → ((value : Value) → expression_value c text ≡ Ok value → IsAt section (offset +ℤ pos n) value) → LieAfter c section offset n text
both_lie addresses c text section offset n alone valued =
    record {
      indexed = λ x address e. (let i = implied c text x address alone e in (i.0, lies addresses c text section offset n address alone valued i.1));
      plain = λ address e. lies addresses c text section offset n address alone valued (implied_plain c text address alone e);
    }

pub list_lies : OperandsAddress → ListLies
list_lies addresses c section offset has =
    both_lie addresses c (codes "DFHEIPL") section offset 0 (list_alone c) (λ value e.
    (let at = list_value c.find c.here section offset has.length value has.known e in record { section = at.section; number = at.number ∙ sym (+ℤ_idr offset) }))

pub words_lie : OperandsAddress → WordsLie
words_lie addresses c section offset k small has =
    both_lie addresses c (word_of_list k) section offset (4 * k) (word_alone c (decimal (4 * k)) (decimal_plain (4 * k)))
    (λ value e. word_value c.find c.here section offset has.length (4 * k) value has.known (omega (arith, small)) e)

-- ---- a list that has a base
absolute_sum : (number : ℤ) (length : ℕ) (value : Value) → sum_of_values (record { sign = Plus; value = record { section = None; number = number; length = length } } ∷ []) ≡ Ok value → value.section ≡ None
unfolding sum_of_values relocation
absolute_sum number length value e =
    go (sum_from (pos 0) (record { sign = Plus; value = record { section = None; number = number; length = length } } ∷ [])) e
  where
    go : (o : Option ℤ) → value_or_fault o (Some None) length ≡ Ok value → value.section ≡ None
    go None e = absurd (cc)
    go (Some sum) e = (let same : record { section = None; number = sum; length = length } ≡ value = cc in ap (λ v. v.section) (sym same))

symbol_sum : (find : List ℕ → Option Value) (here : Option Value) (v value : Value) → look_up find (codes "DFHEIPL") ≡ Some v → value_of find here (codes "DFHEIPL") ≡ Ok value
    → sum_of_values (record { sign = Plus; value = v } ∷ []) ≡ Ok value
unfolding value_of
symbol_sum find here v value known e =
    let terms : sum_of_terms find here (Some (term_of Plus Symbol (codes "DFHEIPL") ∷ [])) ≡ Ok value = subst (λ k. sum_of_terms find here k ≡ Ok value) one_term e in
    let found = symbol_value find here v known in rw found at terms

unknown_symbol : (find : List ℕ → Option Value) (here : Option Value) (value : Value) → look_up find (codes "DFHEIPL") ≡ None → value_of find here (codes "DFHEIPL") ≡ Ok value → ⊥
unfolding value_of term_value
unknown_symbol find here value none e =
    let terms : sum_of_terms find here (Some (term_of Plus Symbol (codes "DFHEIPL") ∷ [])) ≡ Ok value = subst (λ k. sum_of_terms find here k ≡ Ok value) one_term e in
    let bad = rw none at terms in absurd (cc)

base_0 : (bases : Bases) (value : Value) (address : Address) → value.section ≡ None → implied_address bases value ≡ Ok address → address.base ≡ 0
base_0 bases value address none e = go (number_within 4095 value.number) (subst (λ s. address_by_bases bases s value.number ≡ Ok address) none e)
  where
    go : (o : Option ℕ) → ok_or (option_map (at_register 0) o) ValueOutOfRange ≡ Ok address → address.base ≡ 0
    go None e = absurd (cc)
    go (Some d) e = (let same : at_register 0 d ≡ address = cc in ap (λ k. k.base) (sym same))

pub list_placed : ListIsPlaced
list_placed c x address e based = go (look_up c.find (codes "DFHEIPL")) refl
  where
    implies : then_check (implied_address c.bases) (expression_value c (codes "DFHEIPL")) ≡ Ok address
    implies = (implied c (codes "DFHEIPL") x address (list_alone c) e).1

    by_section : (v : Value) (o : Option (List ℕ)) → look_up c.find (codes "DFHEIPL") ≡ Some v → v.section ≡ o → HasSomeList c.find
    by_section v (Some section) known is =
        record {
          section = section;
          offset = v.number;
          is = record { length = v.length; known = known ∙ ap (λ s. Some (record { section = s; number = v.number; length = v.length })) is };
        }
    by_section v None known is = absurd (based (by_value (expression_value c (codes "DFHEIPL")) refl implies))
      where
        by_value : (r : Result Value FaultKind) → expression_value c (codes "DFHEIPL") ≡ r → then_check (implied_address c.bases) r ≡ Ok address → address.base ≡ 0
        by_value (Err fault) valued e = absurd (cc)
        by_value (Ok value) valued e =
            let sum = symbol_sum c.find c.here v value known valued in
            base_0 c.bases value address
            (absolute_sum v.number v.length value (subst (λ s. sum_of_values (record { sign = Plus; value = record { section = s; number = v.number; length = v.length } } ∷ []) ≡ Ok value) is sum)) e

    go : (o : Option Value) → look_up c.find (codes "DFHEIPL") ≡ o → HasSomeList c.find
    go (Some v) known = by_section v v.section known refl
    go None none = absurd (by_value (expression_value c (codes "DFHEIPL")) refl implies)
      where
        by_value : (r : Result Value FaultKind) → expression_value c (codes "DFHEIPL") ≡ r → then_check (implied_address c.bases) r ≡ Ok address → ⊥
        by_value (Err fault) valued e = cc
        by_value (Ok value) valued e = unknown_symbol c.find c.here value none valued
