-- The lines of a disassembly are read back.
use Rattle.std.specs.Prelude.{codes, flat_map, decimal, nat_le, int_le, pos, option_map, take, drop, ◌&&◌}
use Rattle.std.proofs.Common.{◌≡◌, ◌≤◌, ◌<◌, ℕ, ◌+◌, ◌-◌, ◌^◌, Bool, true, false, cond, ◌==◌, Option, Some, None, Ok, List, [], ◌∷◌, ◌++◌, length, map, refl, sym, ◌∙◌, ap, subst, arith}
use Rattle.std.specs.List.{AllByRecursion, list_all, prefix_len, take_while}
use Rattle.std.proofs.Math.Seq.{drop-append_seam, drop-length, take-append_seam, take-length}
use Rattle.std.proofs.lemmas.Bool.Decides.{nat_tests}
use Rattle.std.proofs.lemmas.List.{append_assoc, append-nil, length-append}
use Rattle.cx_code.specs.Spelling.{AreInRange, Instruction, IsWellFormed, format_with, instruction, r3_of}
use Rattle.cx_code.specs.Table.{format_of, is_shift, mnemonic_of, operation_row}
use Rattle.cx_code.specs.Text.{base_text, hex_pair, index_text, instruction_text, operands, what_text}
use Rattle.cx_code.specs.declared.instruction.Fields.{Fields}
use Rattle.cx_code.specs.declared.instruction.Fields.TheVariants.{Rr, Rx, Rs, Si, Ss, Ss2}
use Rattle.cx_code.specs.declared.table.Format.TheVariants as format
use Rattle.cx_code.specs.declared.disassembly.LineContent.TheVariants.{Code, Data, Space}
use Rattle.cx_code.specs.declared.table.Op.{Op}
use Rattle.cx_code.specs.declared.table.Op.TheVariants.{Sla, Sll, Sra, Srda, Srl}
use Rattle.cx_ebcdic.specs.Lookup.{each_some}
use Rattle.cx_source.specs.Marks.{at_start, scan_depth_after, is_length_attribute, first_from, first_mark, is_mark, lies_outside, parts, parts_from, scan_after, within_after}
use Rattle.cx_source.specs.declared.marks.Delimiter.{Delimiter}
use Rattle.cx_source.specs.declared.marks.Delimiter.TheVariants.{TopComma, Parenthesis, Closing}
use Rattle.cx_source.specs.declared.marks.Scan.{Scan}
use Rattle.cx_asm_expressions.specs.Digits.{bound, digit, is_digit}
use Rattle.cx_asm_expressions.specs.Expressions.{sum_of_terms, sum_of_values, value_of}
use Rattle.cx_asm_expressions.specs.Items.{after_digits, constant, constant_in, parenthesized_body}
use Rattle.cx_asm_expressions.specs.Kinds.{kind_of}
use Rattle.cx_asm_expressions.specs.Symbols.{absolute}
use Rattle.cx_asm_expressions.specs.TermValues.{greatest, number_value, term_value}
use Rattle.cx_asm_expressions.specs.Terms.{read_term, term_of, terms_of}
use Rattle.cx_asm_expressions.specs.Weights.{relocation}
use Rattle.cx_asm_expressions.specs.declared.kinds.ConstantKind.TheVariants.{Hexadecimal}
use Rattle.cx_asm_expressions.specs.declared.terms.Sign.TheVariants.{Plus}
use Rattle.cx_asm_expressions.specs.declared.terms.TermKind.TheVariants.{Decimal}
use Rattle.cx_asm_expressions.specs.declared.values.Value.{Value}
use Rattle.cx_asm_pools.specs.Pools.{literal_text}
use Rattle.cx_asm_operands.specs.Addresses.{address}
use Rattle.cx_asm_operands.specs.Checking.{with_made}
use Rattle.cx_asm_operands.specs.Context.{Context, expression_value, number_at_most, operand_number, register_in}
use Rattle.cx_asm_operands.specs.Forms.{fields_in, form_of_op, instruction_or_fault, operands_of}
use Rattle.cx_asm_operands.specs.Storage.{counted_in, expression_and_list, explicit_address, index_in, indexed_in, is_literal, operand, operand_in, plain_in}
use Rattle.cx_asm_operands.specs.declared.forms.Form.TheVariants as form
use Rattle.cx_asm_operations.specs.Operations.{operation_named}
use Rattle.cx_asm_operations.specs.declared.operations.Operation.TheVariants as operation
use Rattle.cx_asm_laws.specs.Facts.Hexadecimals.{EachIsByte, constant_is, hex_length, hex_plain, made_is}
use Rattle.cx_asm_laws.specs.Facts.Plain.{ArePlain, Cut, decimal_plain, decimal_read, decimal_term, neither, plain_cut, plain_part, split}
use Rattle.cx_asm_laws.specs.Laws.Again.{BytesAreReadBack, InstructionsAreReadBack, LinesAreStatements, SpacesAreReadBack, statement_of}

-- ---- a number
decimal_terms : (n : ℕ) → n < 2 ^ 64 → terms_of (decimal n) ≡ Some (term_of Plus Decimal (decimal n) ∷ [])
unfolding terms_of
decimal_terms n small =
    let read = decimal_read n small in
    ap (λ k. each_some (map read_term k)) (plain_part Plus at_start [] (decimal n) (decimal_plain n)) ∙ rw (decimal_term (decimal n) (decimal_plain n) read.all read.some) refl

decimal_value : (find : List ℕ → Option Value) (here : Option Value) (n : ℕ) → n < 2 ^ 64 → n ≤ greatest → term_value find here (term_of Plus Decimal (decimal n)) ≡ Ok (absolute (pos n))
unfolding term_value
decimal_value find here n small le =
    let within : nat_le n greatest ≡ true = grind (arith, nat_tests, le) in
    ap (number_value greatest) (decimal_read n small).number ∙ rw within refl

one_sum : (n : ℕ) → n ≤ greatest → sum_of_values (record { sign = Plus; value = absolute (pos n) } ∷ []) ≡ Ok (absolute (pos n))
unfolding sum_of_values relocation
one_sum n le =
    let start : 0 + n ≡ n = omega arith in
    let within : nat_le n bound ≡ true = grind (arith, nat_tests, le) in
    rw (start, within) refl

value_is : (c : Context) (n : ℕ) → n ≤ greatest → expression_value c (decimal n) ≡ Ok (absolute (pos n))
unfolding value_of
value_is c n le =
    let small : n < 2 ^ 64 = omega (arith, le) in
    ap (sum_of_terms c.find c.here) (decimal_terms n small) ∙ rw (decimal_value c.find c.here n small le) (one_sum n le)

at_most_is : (most n : ℕ) → n ≤ most → number_at_most most (absolute (pos n)) ≡ Ok n
at_most_is most n le =
    let within : (int_le (pos 0) (pos n) && int_le (pos n) (pos most)) ≡ true = grind (arith, nat_tests, le) in
    rw within refl

number_is : (most : ℕ) (c : Context) (n : ℕ) → most ≤ greatest → n ≤ most → operand_number most c (decimal n) ≡ Ok n
unfolding operand_number
number_is most c n limit le = rw (value_is c n (omega (arith, limit, le))) (at_most_is most n le)

register_is : (c : Context) (n : ℕ) → n ≤ 15 → register_in c (decimal n) ≡ Ok n
register_is c n le = number_is 15 c n (omega arith) le

-- ---- texts that are cut nowhere
abbrev out : ℕ → ℕ → ℕ → Scan
out depth before last = record { within = false; depth = depth; before = before; last = last }

abbrev IsWhole : List ℕ → Type 0
IsWhole text = (before last : ℕ) (part rest : List ℕ) → Cut (out 0 before last) part text rest

plain_whole : (text : List ℕ) → ArePlain text → IsWhole text
plain_whole text plain before last part rest = plain_cut (out 0 before last) part text rest plain

-- what may be in parentheses: neither an apostrophe nor a parenthesis
abbrev AreInner : List ℕ → Type 0
AreInner text = AllByRecursion (λ c. 42 ≤ c) text

differs : (c mark : ℕ) → 42 ≤ c → mark < 42 → (c == mark) ≡ false
differs c mark h m = grind (arith, nat_tests)

plain_inner : (text : List ℕ) → ArePlain text → AreInner text
plain_inner [] h = tt
plain_inner (c ∷ text) h = (omega (arith, h.0), plain_inner text h.1)

inner_joined : (one two : List ℕ) → AreInner one → AreInner two → AreInner (one ++ two)
inner_joined [] two h k = k
inner_joined (c ∷ one) two h k = (h.0, inner_joined one two h.1 k)

scanned : (depth before last c : ℕ) (after : List ℕ) → 42 ≤ c → scan_after (out depth before last) c after ≡ out depth last c
unfolding within_after scan_depth_after
scanned depth before last c after h = rw (differs c 39 h (omega arith), differs c 40 h (omega arith), differs c 41 h (omega arith)) refl

no_top : (outside : Bool) (c : ℕ) → (outside && is_mark TopComma 1 c) ≡ false
no_top outside c = go outside (c == 44)
  where
    go : (a b : Bool) → (a && (b && false)) ≡ false
    go true true = refl
    go true false = refl
    go false b = refl

inner_cut : (before last : ℕ) (part text rest : List ℕ) → AreInner text → Cut (out 1 before last) part text rest
inner_cut before last part [] rest h = record { before = before; last = last; is = ap (λ p. parts_from TopComma (out 1 before last) p rest) (sym (append-nil part)) }
inner_cut before last part (c ∷ text) rest h =
    let scan = out 1 before last in
    let more = inner_cut last c (part ++ (c ∷ [])) text rest h.1 in
    record {
      before = more.before;
      last = more.last;
      is =
          ap (λ b. cond b (part ∷ parts_from TopComma (scan_after scan c (text ++ rest)) [] (text ++ rest)) (parts_from TopComma (scan_after scan c (text ++ rest)) (part ++ (c ∷ [])) (text ++ rest)))
          (no_top (lies_outside scan c (text ++ rest)) c)
          ∙ ap (λ s. parts_from TopComma s (part ++ (c ∷ [])) (text ++ rest)) (scanned 1 before last c (text ++ rest) h.0) ∙ more.is
          ∙ ap (λ p. parts_from TopComma (out 1 more.before more.last) p rest) (append_assoc part (c ∷ []) text);
    }

opens : (before last : ℕ) (part rest : List ℕ) → parts_from TopComma (out 0 before last) part (40 ∷ rest) ≡ parts_from TopComma (out 1 last 40) (part ++ 40 ∷ []) rest
unfolding within_after scan_depth_after
opens before last part rest = refl

closes : (before last : ℕ) (part rest : List ℕ) → parts_from TopComma (out 1 before last) part (41 ∷ rest) ≡ parts_from TopComma (out 0 last 41) (part ++ 41 ∷ []) rest
unfolding within_after scan_depth_after
closes before last part rest = refl

at_comma : (before last : ℕ) (part rest : List ℕ) → parts_from TopComma (out 0 before last) part (44 ∷ rest) ≡ part ∷ parts_from TopComma (out 0 last 44) [] rest
unfolding within_after scan_depth_after
at_comma before last part rest = refl

-- a text with parentheses after it
abbrev with_list : List ℕ → List ℕ → List ℕ
with_list text inner = text ++ codes "(" ++ inner ++ codes ")"

list_rest : (text inner rest : List ℕ) → with_list text inner ++ rest ≡ text ++ (40 ∷ (inner ++ (41 ∷ rest)))
list_rest text inner rest =
    append_assoc ((text ++ codes "(") ++ inner) (codes ")") rest ∙ append_assoc (text ++ codes "(") inner (41 ∷ rest) ∙ append_assoc text (codes "(") (inner ++ (41 ∷ rest))

list_is : (text inner : List ℕ) → with_list text inner ≡ text ++ (40 ∷ (inner ++ (41 ∷ [])))
list_is text inner = append_assoc (text ++ codes "(") inner (codes ")") ∙ append_assoc text (codes "(") (inner ++ (41 ∷ []))

list_whole : (text inner : List ℕ) → ArePlain text → AreInner inner → IsWhole (with_list text inner)
list_whole text inner plain ins before last part rest =
    let first = plain_cut (out 0 before last) part text (40 ∷ (inner ++ (41 ∷ rest))) plain in
    let second = inner_cut first.last 40 ((part ++ text) ++ 40 ∷ []) inner (41 ∷ rest) ins in
    record {
      before = second.last;
      last = 41;
      is =
          ap (parts_from TopComma (out 0 before last) part) (list_rest text inner rest) ∙ first.is ∙ opens first.before first.last (part ++ text) (inner ++ (41 ∷ rest)) ∙ second.is
          ∙ closes second.before second.last (((part ++ text) ++ 40 ∷ []) ++ inner) rest
          ∙ ap (λ p. parts_from TopComma (out 0 second.last 41) p rest) (entire part);
    }
  where
    entire : (part : List ℕ) → (((part ++ text) ++ 40 ∷ []) ++ inner) ++ 41 ∷ [] ≡ part ++ with_list text inner
    entire part =
        ap (λ k. ((k ++ inner) ++ 41 ∷ [])) (append_assoc part text (40 ∷ [])) ∙ ap (λ k. k ++ 41 ∷ []) (append_assoc part (text ++ 40 ∷ []) inner)
        ∙ append_assoc part ((text ++ 40 ∷ []) ++ inner) (41 ∷ [])

-- ---- operands
last_part : (before last : ℕ) (text : List ℕ) → IsWhole text → parts_from TopComma (out 0 before last) [] text ≡ text ∷ []
last_part before last text whole =
    let cut = whole before last [] [] in
    ap (parts_from TopComma (out 0 before last) []) (sym (append-nil text)) ∙ cut.is

record Head (before last : ℕ) (text rest : List ℕ) : Type 0 where
  after : ℕ
  is : parts_from TopComma (out 0 before last) [] (text ++ 44 ∷ rest) ≡ text ∷ parts_from TopComma (out 0 after 44) [] rest

head_part : (before last : ℕ) (text rest : List ℕ) → IsWhole text → Head before last text rest
head_part before last text rest whole =
    let cut = whole before last [] (44 ∷ rest) in
    record { after = cut.last; is = cut.is ∙ at_comma cut.before cut.last text rest }

one_operand : (text : List ℕ) → IsWhole text → parts TopComma text ≡ text ∷ []
one_operand text whole = last_part 32 32 text whole

two_operands : (one two : List ℕ) → IsWhole one → IsWhole two → parts TopComma (one ++ codes "," ++ two) ≡ one ∷ two ∷ []
two_operands one two w v =
    let head = head_part 32 32 one two w in
    ap (parts TopComma) (append_assoc one (codes ",") two) ∙ head.is ∙ ap (λ k. one ∷ k) (last_part head.after 44 two v)

three_operands : (one two three : List ℕ) → IsWhole one → IsWhole two → IsWhole three → parts TopComma (one ++ codes "," ++ (two ++ codes ",") ++ three) ≡ one ∷ two ∷ three ∷ []
three_operands one two three w v u =
    let head = head_part 32 32 one (two ++ 44 ∷ three) w in
    let next = head_part head.after 44 two three v in
    ap (parts TopComma) (ap (λ k. k ++ three) (append_assoc one (codes ",") (two ++ codes ",")) ∙ append_assoc one (44 ∷ (two ++ codes ",")) three ∙ ap (λ k. one ++ (44 ∷ k)) (append_assoc two (codes ",") three))
    ∙ head.is ∙ ap (λ k. one ∷ k) (next.is ∙ ap (λ k. two ∷ k) (last_part next.after 44 three u))

-- ---- an expression and a list in parentheses
abbrev IsNoMark : Delimiter → Type 0
IsNoMark mark = (depth c : ℕ) → 42 ≤ c → is_mark mark depth c ≡ false

no_parenthesis : IsNoMark Parenthesis
no_parenthesis depth c h = rw (differs c 40 h (omega arith), differs c 41 h (omega arith)) refl

no_closing : IsNoMark Closing
no_closing depth c h = rw (differs c 41 h (omega arith)) refl

first_is : (mark : Delimiter) → IsNoMark mark → (m : ℕ) → (m == 39) ≡ false → is_mark mark 0 m ≡ true → (before last : ℕ) (text rest : List ℕ) → AreInner text
    → first_from mark (out 0 before last) (text ++ m ∷ rest) ≡ length text
unfolding within_after
first_is mark none m plain at before last [] rest h = rw (plain, at) refl
first_is mark none m plain at before last (c ∷ text) rest h =
    let more = first_is mark none m plain at last c text rest h.1 in
    let here : (lies_outside (out 0 before last) c (text ++ m ∷ rest) && is_mark mark 0 c) ≡ false = rw (none 0 c h.0) (neither (lies_outside (out 0 before last) c (text ++ m ∷ rest))) in
    ap (λ b. cond b 0 (1 + first_from mark (scan_after (out 0 before last) c (text ++ m ∷ rest)) (text ++ m ∷ rest))) here
    ∙ ap (λ s. 1 + first_from mark s (text ++ m ∷ rest)) (scanned 0 before last c (text ++ m ∷ rest) h.0) ∙ ap (λ n. 1 + n) more ∙ omega arith

body_is : (inner : List ℕ) → AreInner inner → parenthesized_body (40 ∷ (inner ++ (41 ∷ []))) ≡ Some inner
body_is inner ins =
    let at : first_mark Closing (inner ++ 41 ∷ []) ≡ length inner = first_is Closing no_closing 41 refl refl 32 32 inner [] ins in
    let all = length-append inner (41 ∷ []) in
    let ends : (length inner + 1 == length (inner ++ 41 ∷ [])) ≡ true = grind (arith, nat_tests, all) in
    rw (at, ends) (ap Some (take-append_seam inner (41 ∷ [])))

by_place : (text : List ℕ) (at : ℕ) → first_mark Parenthesis text ≡ at
    → expression_and_list text ≡ cond (at == length text) (Some (text, [])) (option_map (λ body. (take at text, parts TopComma body)) (parenthesized_body (drop at text)))
by_place text at e = rw e refl

written_is : (text inner : List ℕ) → AreInner text → AreInner inner → expression_and_list (with_list text inner) ≡ Some (text, parts TopComma inner)
written_is text inner h ins =
    let rest = 40 ∷ (inner ++ (41 ∷ [])) in
    let all = length-append text rest in
    let more : (length text == length (text ++ rest)) ≡ false = grind (arith, nat_tests, all) in
    ap expression_and_list (list_is text inner) ∙ by_place (text ++ rest) (length text) (first_is Parenthesis no_parenthesis 40 refl refl 32 32 text (inner ++ (41 ∷ [])) h)
    ∙ rw (more, drop-append_seam text rest, take-append_seam text rest, body_is inner ins) refl

-- ---- storage operands
no_equals : (c : ℕ) → is_digit 10 c ≡ true → (c == 61) ≡ false
unfolding digit
no_equals c h = grind (arith, nat_tests)

not_literal : (text rest : List ℕ) → list_all (is_digit 10) text ≡ true → 0 < length text → is_literal (text ++ rest) ≡ false
not_literal [] rest all some = absurd (omega (arith, some))
not_literal (c ∷ text) rest all some = no_equals c (split (is_digit 10 c) (list_all (is_digit 10) text) all).0

operand_is : (takes : Bool) (c : Context) (d : ℕ) (inner : List ℕ) → d ≤ 4095 → AreInner inner
    → operand_in takes c (with_list (decimal d) inner) ≡ Some (operand (Ok (absolute (pos d))) (parts TopComma inner))
unfolding operand_in
operand_is takes c d inner le ins =
    let read = decimal_read d (omega (arith, le)) in
    let none : is_literal (with_list (decimal d) inner) ≡ false = ap is_literal (list_is (decimal d) inner) ∙ not_literal (decimal d) (40 ∷ (inner ++ (41 ∷ []))) read.all read.some in
    rw (none, written_is (decimal d) inner (plain_inner (decimal d) (decimal_plain d)) ins, value_is c d (omega (arith, le))) refl

decimal_inner : (n : ℕ) → AreInner (decimal n)
decimal_inner n = plain_inner (decimal n) (decimal_plain n)

decimal_whole : (n : ℕ) → IsWhole (decimal n)
decimal_whole n = plain_whole (decimal n) (decimal_plain n)

explicit_is : (c : Context) (d b : ℕ) → d ≤ 4095 → b ≤ 15 → explicit_address c (Ok (absolute (pos d))) (decimal b) ≡ Ok (address b d)
explicit_is c d b small register = rw (at_most_is 4095 d small, register_is c b register) refl

-- D(B)
base_is : (takes : Bool) (c : Context) (d b : ℕ) → d ≤ 4095 → b ≤ 15 → plain_in takes c (base_text d b) ≡ Ok (address b d)
unfolding plain_in
base_is takes c d b small register = rw (operand_is takes c d (decimal b) small (decimal_inner b), one_operand (decimal b) (decimal_whole b)) (explicit_is c d b small register)

base_whole : (d b : ℕ) → IsWhole (base_text d b)
base_whole d b = list_whole (decimal d) (decimal b) (decimal_plain d) (decimal_inner b)

-- D(X,B)
abbrev pair_text : ℕ → ℕ → List ℕ
pair_text x b = decimal x ++ codes "," ++ decimal b

pair_inner : (x b : ℕ) → AreInner (pair_text x b)
pair_inner x b = inner_joined (decimal x ++ codes ",") (decimal b) (inner_joined (decimal x) (codes ",") (decimal_inner x) (omega arith, tt)) (decimal_inner b)

index_text_is : (d x b : ℕ) → index_text d x b ≡ with_list (decimal d) (pair_text x b)
index_text_is d x b =
    ap (λ k. (k ++ decimal b) ++ codes ")") (append_assoc (decimal d ++ codes "(") (decimal x) (codes ",")) ∙ ap (λ k. k ++ codes ")") (append_assoc (decimal d ++ codes "(") (decimal x ++ codes ",") (decimal b))

index_whole : (d x b : ℕ) → IsWhole (index_text d x b)
index_whole d x b = subst IsWhole (sym (index_text_is d x b)) (list_whole (decimal d) (pair_text x b) (decimal_plain d) (pair_inner x b))

pair_parts : (x b : ℕ) → parts TopComma (pair_text x b) ≡ decimal x ∷ decimal b ∷ []
pair_parts x b = two_operands (decimal x) (decimal b) (decimal_whole x) (decimal_whole b)

written_index : (c : Context) (text : List ℕ) → 0 < length text → index_in c text ≡ register_in c text
written_index c [] some = absurd (omega (arith, some))
written_index c (d ∷ text) some = refl

index_is : (c : Context) (d x b : ℕ) → d ≤ 4095 → x ≤ 15 → b ≤ 15 → indexed_in c (index_text d x b) ≡ Ok (x, address b d)
unfolding indexed_in
index_is c d x b small index register =
    let read = decimal_read x (omega (arith, index)) in
    rw (index_text_is d x b, operand_is true c d (pair_text x b) small (pair_inner x b), pair_parts x b, written_index c (decimal x) read.some, register_is c x index, explicit_is c d b small register) refl

counted_is : (most : ℕ) (takes : Bool) (c : Context) (d l b : ℕ) → most ≤ 256 → d ≤ 4095 → l + 1 ≤ most → b ≤ 15 → counted_in most takes c (index_text d (l + 1) b) ≡ Ok (l, address b d)
unfolding counted_in
counted_is most takes c d l b limit small count register =
    let same : l + 1 - 1 ≡ l = omega arith in
    rw (index_text_is d (l + 1) b, operand_is takes c d (pair_text (l + 1) b) small (pair_inner (l + 1) b), pair_parts (l + 1) b, number_is most c (l + 1) (omega (arith, limit)) count, explicit_is c d b small register, same) refl

-- ---- fields
plain_read : (fields : Fields) (c : Context) → AreInRange fields → fields_in (form.Format (format_with fields)) c (operands_of (operands false fields)) ≡ Ok fields
unfolding fields_in operands
plain_read (Rr r1 r2) c h =
    rw (two_operands (decimal r1) (decimal r2) (decimal_whole r1) (decimal_whole r2), register_is c r1 (omega (arith, h.0)), register_is c r2 (omega (arith, h.1.0))) refl
plain_read (Rx r1 x2 b2 d2) c h =
    rw (
      two_operands (decimal r1) (index_text d2 x2 b2) (decimal_whole r1) (index_whole d2 x2 b2),
      register_is c r1 (omega (arith, h.0)),
      index_is c d2 x2 b2 (omega (arith, h.1.1.1.0)) (omega (arith, h.1.0)) (omega (arith, h.1.1.0)),
    ) refl
plain_read (Rs r1 r3 b2 d2) c h =
    rw (
      three_operands (decimal r1) (decimal r3) (base_text d2 b2) (decimal_whole r1) (decimal_whole r3) (base_whole d2 b2),
      register_is c r1 (omega (arith, h.0)),
      register_is c r3 (omega (arith, h.1.0)),
      base_is false c d2 b2 (omega (arith, h.1.1.1.0)) (omega (arith, h.1.1.0)),
    ) refl
plain_read (Si i2 b1 d1) c h =
    rw (
      two_operands (base_text d1 b1) (decimal i2) (base_whole d1 b1) (decimal_whole i2),
      base_is false c d1 b1 (omega (arith, h.1.1.0)) (omega (arith, h.1.0)),
      number_is 255 c i2 (omega arith) (omega (arith, h.0)),
    ) refl
plain_read (Ss l b1 d1 b2 d2) c h =
    rw (
      two_operands (index_text d1 (l + 1) b1) (base_text d2 b2) (index_whole d1 (l + 1) b1) (base_whole d2 b2),
      counted_is 256 false c d1 l b1 (omega arith) (omega (arith, h.1.1.0)) (omega (arith, h.0)) (omega (arith, h.1.0)),
      base_is true c d2 b2 (omega (arith, h.1.1.1.1.0)) (omega (arith, h.1.1.1.0)),
    ) refl
plain_read (Ss2 l1 l2 b1 d1 b2 d2) c h =
    rw (
      two_operands (index_text d1 (l1 + 1) b1) (index_text d2 (l2 + 1) b2) (index_whole d1 (l1 + 1) b1) (index_whole d2 (l2 + 1) b2),
      counted_is 16 false c d1 l1 b1 (omega arith) (omega (arith, h.1.1.1.0)) (omega (arith, h.0)) (omega (arith, h.1.1.0)),
      counted_is 16 true c d2 l2 b2 (omega arith) (omega (arith, h.1.1.1.1.1.0)) (omega (arith, h.1.0)) (omega (arith, h.1.1.1.1.0)),
    ) refl

shift_read : (r1 r3 b2 d2 : ℕ) (c : Context) → AreInRange (Rs r1 r3 b2 d2) → r3 ≡ 0 → fields_in form.Shift c (operands_of (operands true (Rs r1 r3 b2 d2))) ≡ Ok (Rs r1 r3 b2 d2)
unfolding fields_in operands
shift_read r1 r3 b2 d2 c h zero =
    let texts : parts TopComma (decimal r1 ++ codes "," ++ [] ++ base_text d2 b2) ≡ decimal r1 ∷ base_text d2 b2 ∷ [] =
    ap (λ k. parts TopComma (k ++ base_text d2 b2)) (append-nil (decimal r1 ++ codes ",")) ∙ two_operands (decimal r1) (base_text d2 b2) (decimal_whole r1) (base_whole d2 b2) in
    rw (texts, register_is c r1 (omega (arith, h.0)), base_is false c d2 b2 (omega (arith, h.1.1.1.0)) (omega (arith, h.1.1.0)), zero) refl

shift_format : (op : Op) → is_shift op ≡ true → format_of op ≡ format.Rs
unfolding is_shift operation_row
shift_format Srl h = refl
shift_format Sll h = refl
shift_format Sra h = refl
shift_format Sla h = refl
shift_format Srda h = refl
shift_format _ h = cc

fields_read : (op : Op) (fields : Fields) (c : Context) → IsWellFormed (instruction op fields) → fields_in (form_of_op op) c (operands_of (operands (is_shift op) fields)) ≡ Ok fields
unfolding IsWellFormed
fields_read op fields c formed = by_shift (is_shift op) refl
  where
    of_rs : (f : Fields) → format_with f ≡ format.Rs → AreInRange f → r3_of f ≡ 0 → fields_in form.Shift c (operands_of (operands true f)) ≡ Ok f
    of_rs (Rs r1 r3 b2 d2) e h zero = shift_read r1 r3 b2 d2 c h zero
    of_rs (Rr r1 r2) e h zero = absurd (cc)
    of_rs (Rx r1 x2 b2 d2) e h zero = absurd (cc)
    of_rs (Si i2 b1 d1) e h zero = absurd (cc)
    of_rs (Ss l b1 d1 b2 d2) e h zero = absurd (cc)
    of_rs (Ss2 l1 l2 b1 d1 b2 d2) e h zero = absurd (cc)

    by_shift : (s : Bool) → is_shift op ≡ s → fields_in (form_of_op op) c (operands_of (operands (is_shift op) fields)) ≡ Ok fields
    by_shift true e = rw e (of_rs fields (formed.0 ∙ shift_format op e) formed.1 (formed.2 e))
    by_shift false e = rw (e, ← formed.0) (plain_read fields c formed.1)

pub instruction_read : (i : Instruction) (c : Context) → IsWellFormed i → instruction_or_fault (operation.Machine i.op) c (operands (is_shift i.op) i.fields) ≡ Ok i
unfolding instruction_or_fault
instruction_read i c formed = ap (with_made (instruction i.op)) (fields_read i.op i.fields c formed)

-- ---- a space
all_digits : (text : List ℕ) → list_all (is_digit 10) text ≡ true → prefix_len (is_digit 10) text ≡ length text
all_digits [] h = refl
all_digits (c ∷ text) h =
    let both = split (is_digit 10 c) (list_all (is_digit 10) text) h in
    rw (both.0, all_digits text both.1) (omega arith)

digits_taken : (text : List ℕ) → list_all (is_digit 10) text ≡ true → (take_while (is_digit 10) text ≡ text) × (after_digits text ≡ [])
digits_taken text h = let all = all_digits text h in (rw all (take-length text), rw all (drop-length text))

pub space_written : (n : ℕ) → 1 ≤ n → n ≤ 65535 → constant_in true (codes "XL" ++ decimal n) ≡ Ok (constant 1 Hexadecimal (Some n) None)
unfolding constant_in kind_of digit
space_written n some most =
    let read = decimal_read n (omega (arith, most)) in
    let taken = digits_taken (decimal n) read.all in
    let filled : (length (decimal n) == 0) ≡ false = grind (arith, nat_tests, read.some) in
    let one : (n == 0) ≡ false = grind (arith, nat_tests, some) in
    let small : nat_le n 65535 ≡ true = grind (arith, nat_tests, most) in
    rw (taken.0, taken.1, filled, read.number, small, one) refl

pub space_operand : (n : ℕ) → parts TopComma (codes "XL" ++ decimal n) ≡ (codes "XL" ++ decimal n) ∷ []
space_operand n = one_operand (codes "XL" ++ decimal n) (plain_whole (codes "XL" ++ decimal n) (omega arith, (omega arith, decimal_plain n)))

-- ---- a constant
closed : (before last : ℕ) (part : List ℕ) → parts_from TopComma (record { within = true; depth = 0; before = before; last = last }) part (39 ∷ []) ≡ (part ++ 39 ∷ []) ∷ []
unfolding within_after scan_depth_after
closed before last part = refl

pub data_operand : (bytes : List ℕ) → EachIsByte bytes → parts TopComma (codes "X'" ++ flat_map hex_pair bytes ++ codes "'") ≡ (codes "X'" ++ flat_map hex_pair bytes ++ codes "'") ∷ []
unfolding within_after scan_depth_after is_length_attribute
data_operand bytes are =
    let hex = flat_map hex_pair bytes in
    let cut = plain_cut (record { within = true; depth = 0; before = 88; last = 39 }) (codes "X'") hex (39 ∷ []) (hex_plain bytes are) in
    cut.is ∙ closed cut.before cut.last (codes "X'" ++ hex)

-- ---- no operand is a literal
abbrev IsNoLiteral : List ℕ → Type 0
IsNoLiteral part = literal_text part ≡ None

none_written : (n : ℕ) (rest : List ℕ) → n < 2 ^ 64 → IsNoLiteral (decimal n ++ rest)
none_written n rest small = (let read = decimal_read n small in rw (not_literal (decimal n) rest read.all read.some) refl)

none_plain : (n : ℕ) → n < 2 ^ 64 → IsNoLiteral (decimal n)
none_plain n small = subst IsNoLiteral (append-nil (decimal n)) (none_written n [] small)

none_listed : (n : ℕ) (inner : List ℕ) → n < 2 ^ 64 → IsNoLiteral (with_list (decimal n) inner)
none_listed n inner small = subst IsNoLiteral (sym (list_is (decimal n) inner)) (none_written n (40 ∷ (inner ++ (41 ∷ []))) small)

none_indexed : (d x b : ℕ) → d < 2 ^ 64 → IsNoLiteral (index_text d x b)
none_indexed d x b small = subst IsNoLiteral (sym (index_text_is d x b)) (none_listed d (pair_text x b) small)

abbrev AreNoLiterals : List (List ℕ) → Type 0
AreNoLiterals texts = AllByRecursion IsNoLiteral texts

none_plainly : (fields : Fields) → AreInRange fields → AreNoLiterals (parts TopComma (operands false fields))
unfolding operands
none_plainly (Rr r1 r2) h =
    subst AreNoLiterals (sym (two_operands (decimal r1) (decimal r2) (decimal_whole r1) (decimal_whole r2))) (none_plain r1 (omega (arith, h.0)), (none_plain r2 (omega (arith, h.1.0)), tt))
none_plainly (Rx r1 x2 b2 d2) h =
    subst AreNoLiterals (sym (two_operands (decimal r1) (index_text d2 x2 b2) (decimal_whole r1) (index_whole d2 x2 b2)))
    (none_plain r1 (omega (arith, h.0)), (none_indexed d2 x2 b2 (omega (arith, h.1.1.1.0)), tt))
none_plainly (Rs r1 r3 b2 d2) h =
    subst AreNoLiterals (sym (three_operands (decimal r1) (decimal r3) (base_text d2 b2) (decimal_whole r1) (decimal_whole r3) (base_whole d2 b2)))
    (none_plain r1 (omega (arith, h.0)), (none_plain r3 (omega (arith, h.1.0)), (none_listed d2 (decimal b2) (omega (arith, h.1.1.1.0)), tt)))
none_plainly (Si i2 b1 d1) h =
    subst AreNoLiterals (sym (two_operands (base_text d1 b1) (decimal i2) (base_whole d1 b1) (decimal_whole i2)))
    (none_listed d1 (decimal b1) (omega (arith, h.1.1.0)), (none_plain i2 (omega (arith, h.0)), tt))
none_plainly (Ss l b1 d1 b2 d2) h =
    subst AreNoLiterals (sym (two_operands (index_text d1 (l + 1) b1) (base_text d2 b2) (index_whole d1 (l + 1) b1) (base_whole d2 b2)))
    (none_indexed d1 (l + 1) b1 (omega (arith, h.1.1.0)), (none_listed d2 (decimal b2) (omega (arith, h.1.1.1.1.0)), tt))
none_plainly (Ss2 l1 l2 b1 d1 b2 d2) h =
    subst AreNoLiterals (sym (two_operands (index_text d1 (l1 + 1) b1) (index_text d2 (l2 + 1) b2) (index_whole d1 (l1 + 1) b1) (index_whole d2 (l2 + 1) b2)))
    (none_indexed d1 (l1 + 1) b1 (omega (arith, h.1.1.1.0)), (none_indexed d2 (l2 + 1) b2 (omega (arith, h.1.1.1.1.1.0)), tt))

pub no_literals : (i : Instruction) → IsWellFormed i → AreNoLiterals (parts TopComma (operands (is_shift i.op) i.fields))
unfolding IsWellFormed operands
no_literals i formed = by_shift (is_shift i.op) refl
  where
    of_rs : (f : Fields) → format_with f ≡ format.Rs → AreInRange f → AreNoLiterals (parts TopComma (operands true f))
    of_rs (Rs r1 r3 b2 d2) e h =
        let texts : parts TopComma (decimal r1 ++ codes "," ++ [] ++ base_text d2 b2) ≡ decimal r1 ∷ base_text d2 b2 ∷ [] =
        ap (λ k. parts TopComma (k ++ base_text d2 b2)) (append-nil (decimal r1 ++ codes ",")) ∙ two_operands (decimal r1) (base_text d2 b2) (decimal_whole r1) (base_whole d2 b2) in
        subst AreNoLiterals (sym texts) (none_plain r1 (omega (arith, h.0)), (none_listed d2 (decimal b2) (omega (arith, h.1.1.1.0)), tt))
    of_rs (Rr r1 r2) e h = absurd (cc)
    of_rs (Rx r1 x2 b2 d2) e h = absurd (cc)
    of_rs (Si i2 b1 d1) e h = absurd (cc)
    of_rs (Ss l b1 d1 b2 d2) e h = absurd (cc)
    of_rs (Ss2 l1 l2 b1 d1 b2 d2) e h = absurd (cc)

    by_shift : (s : Bool) → is_shift i.op ≡ s → AreNoLiterals (parts TopComma (operands (is_shift i.op) i.fields))
    by_shift true e = rw e (of_rs i.fields (formed.0 ∙ shift_format i.op e) formed.1)
    by_shift false e = rw e (none_plainly i.fields formed.1)

-- ---- the laws
pub space_read : SpacesAreReadBack
unfolding statement_of
space_read n some most = space_written n some most

pub lines_are_statements : LinesAreStatements
unfolding what_text instruction_text statement_of
lines_are_statements (Code i) = refl
lines_are_statements (Data bytes) = refl
lines_are_statements (Space n) = refl

pub instructions_read : ((op : Op) → operation_named (mnemonic_of op) ≡ Some (operation.Machine op)) → InstructionsAreReadBack
unfolding statement_of
instructions_read named i c formed = (named i.op, instruction_read i c formed)

pub bytes_read : BytesAreReadBack
unfolding statement_of
bytes_read bytes whole counter are some =
    let many = hex_length bytes in (constant_is (flat_map hex_pair bytes) (hex_plain bytes are) (omega (arith, many, some)), made_is whole counter bytes are some)
