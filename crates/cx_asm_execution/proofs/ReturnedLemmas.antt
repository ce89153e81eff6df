-- The load of a pointer, from where it is to what it gives.
use Rattle.std.specs.Prelude.{Err, Result, codes, option_map, reverse, slice_get, slice_set, ℤ}
use Rattle.std.proofs.Common.{◌≡◌, ◌≤◌, ◌<◌, ℕ, ◌+◌, ◌^◌, ◌%◌, true, Option, Some, None, Ok, List, [], ◌∷◌, ◌++◌, length, map, refl, sym, ◌∙◌, ap, subst, arith}
use Rattle.std.specs.Option.{option_map_or, option_to_list}
use Rattle.std.proofs.lemmas.List.{append_assoc}
use Rattle.std.proofs.lemmas.List.Sums.{sum_by-cons}
use Rattle.cx_asm_execution.specs.Laws.Pointers.{LoadsGiveWords}
use Rattle.cx_asm_execution.specs.Expansion.{Argument, Statement, argument_address, instructions_made as made_code, words_of_list}
use Rattle.cx_asm_execution.specs.Stands.{AreAt, IsMachine, code_length}
use Rattle.cx_code.specs.declared.disassembly.LineContent.TheVariants.{Code}
use Rattle.cx_code.specs.declared.instruction.Fields.TheVariants.{Rx}
use Rattle.cx_code.specs.declared.table.Op.TheVariants as op
use Rattle.cx_code.specs.Spelling.{Instruction, instruction}
use Rattle.cx_code.specs.Table.{length_of, ops, operation_row}
use Rattle.cx_base.specs.declared.commands.Command.{Command}
use Rattle.cx_base.specs.declared.options.CommandOption.{CommandOption}
use Rattle.cx_base.specs.declared.options.ArgumentKind.TheVariants.{Pointer}
use Rattle.cx_base.specs.Options.{common_of, option_name}
use Rattle.cx_base.specs.declared.options.CommonOption.TheVariants.{Resp}
use Rattle.cx_exec.specs.declared.machine.Step.TheVariants.{Done}
use Rattle.cx_exec.specs.Machine.{Machine, effective}
use Rattle.cx_exec.specs.Step.{Steps, entry}
use Rattle.cx_load.specs.Fault.{IsFit}
use Rattle.cx_load.specs.Program.{IsLoaded}
use Rattle.cx_load.specs.declared.program.Loaded.{Loaded}
use Rattle.cx_asm_operations.specs.Operations.{operation_named, operations}
use Rattle.cx_asm_pass1.specs.PassState.{state_after, next_in, role_in}
use Rattle.cx_asm_pass1.specs.Layout.{align}
use Rattle.cx_asm_pass1.specs.declared.roles.Role.TheVariants as role
use Rattle.cx_source.specs.declared.source.Item.{Item}
use Rattle.cx_source.specs.declared.source.Source.{Source}
use Rattle.cx_source.specs.Lines.{is_letter, is_symbol_name, is_symbol_name_character}
use Rattle.cx_source.specs.Marks.{scan_depth_after, within_after}
use Rattle.cx_storage.specs.Address.{address_after}
use Rattle.cx_storage.specs.Laws.Spans.{SpanIsBytes}
use Rattle.cx_storage.specs.Storage.{Storage}
use Rattle.cx_storage.specs.Word.{word_at}
use Rattle.cx_asm_expressions.specs.Expressions.{value_of, sum_of_terms}
use Rattle.cx_asm_expressions.specs.Terms.{read_term, term_of, terms_of}
use Rattle.cx_asm_expressions.specs.TermValues.{term_value}
use Rattle.cx_asm_expressions.specs.declared.faults.FaultKind.{FaultKind}
use Rattle.cx_asm_expressions.specs.declared.faults.FaultKind.TheVariants.{BadOperand, ValueOutOfRange}
use Rattle.cx_asm_expressions.specs.declared.terms.Sign.TheVariants.{Plus}
use Rattle.cx_asm_expressions.specs.declared.terms.TermKind.TheVariants.{Symbol}
use Rattle.cx_asm_expressions.specs.declared.values.Value.{Value}
use Rattle.cx_translate.specs.declared.words.Word.{Word}
use Rattle.cx_translate.specs.Facts.Found.{operand_by}
use Rattle.cx_translate.specs.Call.{argument_of, labels_of, list_of, operand_of, operands_of as arguments_handed, pointer_by, pointers_of}
use Rattle.cx_translate.specs.Expansion.{load, made_item, stmt}
use Rattle.cx_translate.specs.Sections.{lines}
use Rattle.cx_asm_operands.specs.Addresses.{address, address_by_bases as addressed_in, number_within, implied_address}
use Rattle.cx_asm_operands.specs.Bases.{Bases}
use Rattle.cx_asm_operands.specs.Context.{Context, context, expression_value}
use Rattle.cx_asm_operands.specs.Forms.{operands_of}
use Rattle.cx_asm_operands.specs.Checking.{both_or_lower_fault, then_check}
use Rattle.cx_asm_operands.specs.Storage.{indexed_in, operand, operand_in, Operand, indexed_by}
use Rattle.cx_asm_operands.specs.declared.addresses.Address.{Address}
use Rattle.cx_asm_pass2.specs.Whole.{Whole, whole_of}
use Rattle.cx_asm.specs.Assembly.{AssemblyParts, assembly_of}
use Rattle.cx_asm.specs.Resolving.{line as line_at}
use Rattle.cx_asm_execution.specs.Arguments.{HoldsBase, Sections}
use Rattle.cx_asm_execution.proofs.CodeInStorage.{CodeIsLoaded}
use Rattle.cx_asm_execution.proofs.Commands.{AreArguments, ResolvesTo}
use Rattle.cx_asm_execution.proofs.Handed.{block_of}
use Rattle.cx_asm_execution.proofs.InStorage.{TextsAreMade}
use Rattle.cx_asm_execution.proofs.Resolved.{AreResolved, IsResolved, bases_in_use}
use Rattle.cx_asm_execution.proofs.Stores.{context_of, load_of, store_of}
use Rattle.cx_asm_execution.proofs.ArgumentLemmas.{Nearest, absolute_is, both_ok, implied_is, judged_ok, or_ok}
use Rattle.cx_asm_execution.proofs.CalledLemmas.{HasFirst, first_offset}
use Rattle.cx_asm_execution.proofs.KeptLemmas.{IsPlaced, code_kept, code_within, is_placed}
use Rattle.cx_asm_execution.proofs.MadeLemmas.{list_begins, rest_of}
use Rattle.cx_asm_execution.proofs.StandingLemmas.{offset_is}
use Rattle.cx_asm_execution.specs.Arrival.{AreKept, PointerComesBack, IsPointer}
use Rattle.cx_asm_execution.specs.MadeLines.{Site, code_lines}
use Rattle.cx_asm_execution.proofs.Called.{call_statements}
use Rattle.cx_asm_execution.proofs.OptionLemmas.{no_pointer_before}
use Rattle.cx_asm_execution.proofs.Pointers.{IsPointerLoad, LoadsAreResolved, LoadsPointers, pointer_loads}

-- ---- DFHEITP as an operand
one_term : terms_of (codes "DFHEITP") ≡ Some (term_of Plus Symbol (codes "DFHEITP") ∷ [])
unfolding terms_of within_after scan_depth_after read_term is_symbol_name is_letter is_symbol_name_character
one_term = refl

-- it has the same value everywhere
same_value : (find : List ℕ → Option Value) (here there : Option Value) → value_of find here (codes "DFHEITP") ≡ value_of find there (codes "DFHEITP")
unfolding value_of term_value
same_value find here there = ap (sum_of_terms find here) one_term ∙ sym (ap (sum_of_terms find there) one_term)

alone : (c : Context) → operand_in true c (codes "DFHEITP") ≡ Some (operand (expression_value c (codes "DFHEITP")) [])
unfolding operand_in within_after scan_depth_after
alone c = refl

implied : (c : Context) → indexed_in c (codes "DFHEITP") ≡ both_or_lower_fault (Ok 0) (then_check (implied_address c.bases) (expression_value c (codes "DFHEITP")))
unfolding indexed_in
implied c = ap (λ o. option_map_or (λ (o : Operand). indexed_by c o.place o.subfields) o (Err BadOperand)) (alone c)

same_operand : (find : List ℕ → Option Value) (bases : Bases) (here there one other : Option Value)
    → indexed_in (context find here bases one) (codes "DFHEITP") ≡ indexed_in (context find there bases other) (codes "DFHEITP")
same_operand find bases here there one other =
    implied (context find here bases one) ∙ ap (λ w. both_or_lower_fault (Ok 0) (then_check (implied_address bases) w)) (same_value find here there) ∙ sym (implied (context find there bases other))

-- ---- one address
one_address : Nearest → (sections : Sections) (regs later : List ℕ) (bases : Bases) (section : Option (List ℕ)) (number : ℤ) (at : Address) → addressed_in bases section number ≡ Ok at
    → HoldsBase sections regs bases at.base → HoldsBase sections later bases at.base → effective regs 0 at.base at.displacement ≡ effective later 0 at.base at.displacement
unfolding effective
one_address near sections regs later bases None number at e first second =
    let zero : at.base ≡ 0 = (absolute_is number at (or_ok (option_map (address 0) (number_within 4095 number)) ValueOutOfRange at e)).0 in
    rw zero refl
one_address near sections regs later bases (Some section) number at e first second =
    implied_is near sections regs bases (Some section) number at 0 e first ∙ sym (implied_is near sections later bases (Some section) number at 0 e second)

-- Two storage operands without an index have one base register and one displacement, and so one address wherever that
-- holds its base.
record HaveOnePlace (bases : Bases) (x y : ℕ) (handed taken : Address) : Type 0 where
  index : (x ≡ 0) × (y ≡ 0)
  resolved : handed ≡ taken
  address : (sections : Sections) (regs later : List ℕ) → HoldsBase sections regs bases handed.base → HoldsBase sections later bases taken.base
      → effective regs x handed.base handed.displacement ≡ effective later y taken.base taken.displacement

-- what is handed over for a pointer and what its load takes
pointers_have_one_place : Nearest → (whole : Whole) (bases : Bases) (line : ℕ) (before after : List Item) (register : List ℕ) (x y : ℕ) (handed taken : Address)
    → indexed_in (context_of whole bases line before (load_of (operand_of Pointer register))) (operand_of Pointer register) ≡ Ok (x, handed)
    → indexed_in (context_of whole bases line after (load register)) (codes "DFHEITP") ≡ Ok (y, taken) → HaveOnePlace bases x y handed taken
unfolding operand_of
pointers_have_one_place near whole bases line before after register x y handed taken one other =
    let c = context_of whole bases line before (load_of (codes "DFHEITP")) in
    let d = context_of whole bases line after (load register) in
    let found : ◌≡◌ {A = Result (ℕ × Address) FaultKind} (Ok (x, handed)) (Ok (y, taken)) = sym one ∙ same_operand whole.find bases c.here d.here c.literal d.literal ∙ other in
    let pair : ◌≡◌ {A = ℕ × Address} (x, handed) (y, taken) = cc in
    let same : handed ≡ taken = ap (λ (p : ℕ × Address). p.1) pair in
    let parts = both_ok (Ok 0) (then_check (implied_address bases) (expression_value c (codes "DFHEITP"))) x handed (sym (implied c) ∙ one) in
    let none : x ≡ 0 = (let zero = parts.0 in cc) in
    let none_either : y ≡ 0 = ap (λ (p : ℕ × Address). p.0) (sym pair) ∙ none in
    let v = judged_ok (implied_address bases) (expression_value c (codes "DFHEITP")) handed parts.1 in
    record {
      index = (none, none_either);
      resolved = same;
      address = λ sections regs later first second.
          let second_so : HoldsBase sections later bases handed.base = subst (λ (a : Address). HoldsBase sections later bases a.base) (sym same) second in
          let there : effective regs 0 handed.base handed.displacement ≡ effective later 0 handed.base handed.displacement =
          one_address near sections regs later bases (v.0).section (v.0).number handed v.2 first second_so in
          ap (λ n. effective regs n handed.base handed.displacement) none ∙ there ∙ ap (λ (a : Address). effective later 0 a.base a.displacement) same
          ∙ ap (λ n. effective later n taken.base taken.displacement) (sym none_either);
    }

-- ---- the argument that is handed over
given_so : (option : CommandOption) (words : List Word) (register : List ℕ) → option.kind ≡ Pointer → argument_of words (option_name option.name) ≡ Some register
    → (operand_by option.kind (argument_of words (option_name option.name)) ≡ codes "DFHEITP" ∷ [])
    × (pointer_by option.kind (argument_of words (option_name option.name)) ≡ register ∷ [])
unfolding operand_of
given_so option words register marked given = rw (marked, given) (refl, refl)

handed_split : (before : List CommandOption) (option : CommandOption) (after : List CommandOption) (words : List Word) (register : List ℕ) → option.kind ≡ Pointer
    → argument_of words (option_name option.name) ≡ Some register
    → arguments_handed (before ++ option ∷ after) words ≡ arguments_handed before words ++ codes "DFHEITP" ∷ arguments_handed after words
handed_split [] option after words register marked given = ap (λ k. k ++ arguments_handed after words) (given_so option words register marked given).0
handed_split (o ∷ before) option after words register marked given =
    let own = operand_by o.kind (argument_of words (option_name o.name)) in
    ap (λ k. own ++ k) (handed_split before option after words register marked given)
    ∙ sym (append_assoc own (arguments_handed before words) (codes "DFHEITP" ∷ arguments_handed after words))

pointers_split : (before : List CommandOption) (option : CommandOption) (after : List CommandOption) (words : List Word) (register : List ℕ) → option.kind ≡ Pointer
    → argument_of words (option_name option.name) ≡ Some register → pointers_of (before ++ option ∷ after) words ≡ pointers_of before words ++ register ∷ pointers_of after words
pointers_split [] option after words register marked given = ap (λ k. k ++ pointers_of after words) (given_so option words register marked given).1
pointers_split (o ∷ before) option after words register marked given =
    let own = pointer_by o.kind (argument_of words (option_name o.name)) in
    ap (λ k. own ++ k) (pointers_split before option after words register marked given) ∙ sym (append_assoc own (pointers_of before words) (register ∷ pointers_of after words))

-- the list after its first word
record NextTransaction (command : Command) (words : List Word) (before : List CommandOption) : Type 0 where
  rest : List (List ℕ)
  is : rest_of command words ≡ arguments_handed before words ++ codes "DFHEITP" ∷ rest

list_split : (command : Command) (words : List Word) (before : List CommandOption) (register : List ℕ) → IsPointer command words before register → NextTransaction command words before
unfolding list_of
list_split command words before register p =
    let labels = labels_of words in
    let last = option_to_list (argument_of words (common_of Resp).name) in
    let front = arguments_handed before words in
    let back = arguments_handed p.after words in
    record {
      rest = back ++ (labels ++ last);
      is =
          ap (λ o. arguments_handed o words ++ labels ++ last) p.is
          ∙ ap (λ k. k ++ labels ++ last) (handed_split before p.option p.after words register p.marked p.given)
          ∙ append_assoc (front ++ codes "DFHEITP" ∷ back) labels last ∙ append_assoc front (codes "DFHEITP" ∷ back) (labels ++ last);
    }

-- an argument of a text, at its place among the arguments
record HasArgument (whole : Whole) (bases : Bases) (line : ℕ) (text : List ℕ) (arguments : List Argument) (k : ℕ) : Type 0 where
  argument : Argument
  at : slice_get arguments k ≡ Some argument
  before : List Item
  resolves : ResolvesTo whole bases line before (load_of text) text argument.index argument.base argument.displacement

has_argument : (whole : Whole) (bases : Bases) (line : ℕ) (before : List Item) (k : ℕ) (front : List (List ℕ)) (text : List ℕ) (back : List (List ℕ)) (arguments : List Argument)
    → AreArguments whole bases line before k (front ++ text ∷ back) arguments → HasArgument whole bases line text arguments (length front)
unfolding AreArguments
has_argument whole bases line before k [] text back [] are = absurd are
has_argument whole bases line before k [] text back (a ∷ arguments) are = record { argument = a; at = refl; before = before; resolves = are.0 }
has_argument whole bases line before k (other ∷ front) text back [] are = absurd are
has_argument whole bases line before k (other ∷ front) text back (a ∷ arguments) are =
    let rest = has_argument whole bases line (made_item line (store_of k) ∷ made_item line (load_of other) ∷ before) (k + 1) front text back arguments are.2 in
    record { argument = rest.argument; at = rest.at; before = rest.before; resolves = rest.resolves }

after_block : (whole : Whole) (bases : Bases) (line : ℕ) (before : List Item) (block : List ℕ) (list : List (List ℕ)) (s : Statement)
    → AreArguments whole bases line before 0 (block ∷ list) (words_of_list s)
    → AreArguments whole bases line (made_item line (store_of 0) ∷ made_item line (load_of block) ∷ before) 1 list s.arguments
unfolding AreArguments
after_block whole bases line before block list s are = are.2

-- ---- the load
load_length : (register base displacement : ℕ) → code_length (instruction op.L (Rx register 0 base displacement) ∷ []) ≡ 4
unfolding operation_row
load_length register base displacement = refl

l_role : (operand : List ℕ) → role_in (stmt [] (codes "L") operand) ≡ role.Instruction (length_of op.L)
unfolding operation_named operations ops operation_row
l_role operand = refl

record Begins (whole : Whole) (bases : Bases) (before : List Item) (at : ℕ) (item : Item) (code : List Instruction) : Type 0 where
  load : Instruction
  rest : List Instruction
  is : code ≡ load ∷ rest
  resolved : IsResolved whole bases before at item load

begins : (whole : Whole) (bases : Bases) (before : List Item) (at : ℕ) (item : Item) (items : List Item) (code : List Instruction) → AreResolved whole bases before at (item ∷ items) code
    → Begins whole bases before at item code
unfolding AreResolved
begins whole bases before at item items [] r = absurd r
begins whole bases before at item items (i ∷ code) r = record { load = i; rest = code; is = refl; resolved = r.0 }

-- ---- code after code
at_after : (s : Storage) (a : ℕ) (front code : List Instruction) → a < 2 ^ 24 → AreAt s a (front ++ code) → AreAt s (address_after a (code_length front)) code
unfolding AreAt
at_after s a [] code small stands =
    let same : a ≡ address_after a 0 = omega (arith, small) in
    subst (λ n. AreAt s n code) same stands
at_after s a (i ∷ front) code small stands =
    let sum : code_length (i ∷ front) ≡ length_of i.op + code_length front = sum_by-cons (λ (x : Instruction). length_of x.op) i front in
    let place : address_after (address_after a (length_of i.op)) (code_length front) ≡ address_after a (code_length (i ∷ front)) = omega (arith, sum) in
    subst (λ n. AreAt s n code) place (at_after s (address_after a (length_of i.op)) front code (omega arith) stands.2)

first_at : (s : Storage) (a : ℕ) (i : Instruction) (code : List Instruction) → AreAt s a (i ∷ code) → AreAt s a (i ∷ [])
unfolding AreAt
first_at s a i code stands = (stands.0, stands.1, tt)

pub lines_joined : (at : ℕ) (front code : List Instruction) → code_lines at (front ++ code) ≡ code_lines at front ++ code_lines (at + code_length front) code
unfolding code_lines
lines_joined at [] code = (let same : at ≡ at + 0 = omega arith in ap (λ n. code_lines n code) same)
lines_joined at (i ∷ front) code =
    let sum : code_length (i ∷ front) ≡ length_of i.op + code_length front = sum_by-cons (λ (x : Instruction). length_of x.op) i front in
    let place : at + length_of i.op + code_length front ≡ at + code_length (i ∷ front) = omega (arith, sum) in
    ap (λ k. line_at at (Code i) ∷ k) (lines_joined (at + length_of i.op) front code ∙ ap (λ n. code_lines (at + length_of i.op) front ++ code_lines n code) place)

-- ---- at a machine
-- an argument's address, with the registers of the load
later_is : (bases : Bases) (a : Argument) (y : ℕ) (taken : Address) → HaveOnePlace bases a.index y (address a.base a.displacement) taken → (sections : Sections) (regs later : List ℕ)
    → HoldsBase sections regs bases a.base → HoldsBase sections later bases a.base → argument_address regs a ≡ effective later 0 a.base a.displacement
later_is bases a y taken same sections regs later first second =
    same.address sections regs later first (subst (λ (k : Address). HoldsBase sections later bases k.base) same.resolved second)
    ∙ ap (λ n. effective later n taken.base taken.displacement) same.index.1 ∙ ap (λ (k : Address). effective later 0 k.base k.displacement) (sym same.resolved)

-- an instruction after others is in storage
stands_after : (s : Storage) (program at place : ℕ) (front : List Instruction) (i : Instruction) (rest : List Instruction) → at + code_length front ≡ place
    → AreAt s (address_after program at) (front ++ i ∷ rest) → AreAt s (address_after program place) (i ∷ [])
stands_after s program at place front i rest is stands =
    let here : address_after (address_after program at) (code_length front) ≡ address_after program place = again program at (code_length front) ∙ ap (address_after program) is in
    first_at s (address_after program place) i rest (subst (λ n. AreAt s n (i ∷ rest)) here (at_after s (address_after program at) front (i ∷ rest) (omega arith) stands))
  where
    again : (b k n : ℕ) → address_after (address_after b k) n ≡ address_after b (k + n)
    again b k n = omega arith

-- L in a program that is loaded is performed
load_goes : SpanIsBytes → LoadsGiveWords → (loaded : Storage) (program place r b d word : ℕ) (m : Machine) → IsPlaced program → place % 2 ≡ 0 → place ≤ 65536
    → AreAt loaded (address_after program place) (instruction op.L (Rx r 0 b d) ∷ []) → IsMachine m → m.next ≡ address_after program place → AreKept loaded m.storage (address_after program place) 4
    → word_at m.storage (effective m.regs 0 b d) ≡ Some word → Steps m Done (record m { regs = slice_set m.regs r word; next = address_after m.next 4 })
load_goes spans gives loaded program place r b d word m placed even small there machine next kept e =
    let code = instruction op.L (Rx r 0 b d) ∷ [] in
    let stands : AreAt m.storage (address_after program place) code =
    code_kept spans loaded m.storage (address_after program place) code (omega arith) (subst (AreKept loaded m.storage (address_after program place)) (sym (load_length r b d)) kept) there in
    gives m r b d word machine (ap (λ n. n % 2) next ∙ still_even program place placed.even even) (λ same. away program place placed.low placed.high small (sym next ∙ same))
    (subst (λ n. AreAt m.storage n code) (sym next) stands) e
  where
    still_even : (p n : ℕ) → p % 16 ≡ 0 → n % 2 ≡ 0 → address_after p n % 2 ≡ 0
    still_even p n e f = omega (arith, e, f)

    away : (p n : ℕ) → 65536 ≤ p → p ≤ 2097152 → n ≤ 65536 → address_after p n ≡ entry → ⊥
    away p n low high near e = omega (arith, low, high, near, e)

-- ---- a pointer's load
-- what the laws say
pub record Laws : Type 0 where
  pub nearest : Nearest
  pub resolved : LoadsAreResolved
  pub code : CodeIsLoaded
  pub texts : TextsAreMade
  pub spans : SpanIsBytes
  pub gives : LoadsGiveWords

module _ (laws : Laws) (source : Source) (assembly : AssemblyParts) (line : ℕ) (first : List Item) (command : Command) (words : List Word) (accepts : assembly_of source ≡ Ok assembly)
    (all : LoadsPointers source assembly line first command words) (before : List CommandOption) (register : List ℕ) (p : IsPointer command words before register)
    (cut : operands_of (register ++ codes ",DFHEITP") ≡ register ∷ codes "DFHEITP" ∷ []) where
  abbrev whole : Whole
  whole = whole_of source

  abbrev bases : Bases
  bases = bases_in_use source first

  abbrev s : Statement
  s = all.called.statement

  -- the argument
  handed : HasArgument whole bases line (codes "DFHEITP") s.arguments (length (arguments_handed before words))
  handed =
      let after = list_split command words before register p in
      let entire : AreArguments whole bases line (reverse first) 0 (block_of command words ∷ rest_of command words) (words_of_list s) =
      subst (λ k. AreArguments whole bases line (reverse first) 0 k (words_of_list s)) (list_begins command words) all.called.is.arguments in
      let lines_so = made_item line (store_of 0) ∷ made_item line (load_of (block_of command words)) ∷ reverse first in
      let rest = after_block whole bases line (reverse first) (block_of command words) (rest_of command words) s entire in
      has_argument whole bases line lines_so 1 (arguments_handed before words) (codes "DFHEITP") after.rest s.arguments
      (subst (λ k. AreArguments whole bases line lines_so 1 k s.arguments) after.is rest)

  -- its load, right after the call
  abbrev after_call : List Item
  after_call = reverse (lines line (call_statements command words)) ++ reverse first

  own : Item
  own = made_item line (load register)

  loads_begin : lines line (pointer_loads command words) ≡ own ∷ lines line (map load (pointers_of p.after words))
  unfolding own
  loads_begin =
      ap (λ o. lines line (map load (pointers_of o words))) p.is
      ∙ ap (λ k. lines line (map load k)) (pointers_split before p.option p.after words register p.marked p.given
      ∙ ap (λ k. k ++ register ∷ pointers_of p.after words) (no_pointer_before command words before p.option p.after p.is p.marked))

  abbrev place : ℕ
  place = all.code.at + code_length all.calls

  one : Begins whole bases after_call place own all.loads
  one =
      begins whole bases after_call place own (lines line (map load (pointers_of p.after words))) all.loads
      (subst (λ k. AreResolved whole bases after_call place k all.loads) loads_begin all.loaded)

  code_so : all.code.code ≡ all.calls ++ one.load ∷ one.rest
  code_so = all.split ∙ ap (λ k. all.calls ++ k) one.is

  -- what it is resolved to
  loads : IsPointerLoad (context_of whole bases line after_call (load register)) register one.load
  unfolding own
  loads = laws.resolved whole bases line place after_call register one.load cut one.resolved

  one_place : HaveOnePlace bases handed.argument.index loads.takes.index (address handed.argument.base handed.argument.displacement) loads.takes.address
  unfolding operand_of
  one_place =
      pointers_have_one_place laws.nearest whole bases line handed.before after_call register handed.argument.index loads.takes.index
      (address handed.argument.base handed.argument.displacement) loads.takes.address handed.resolves loads.takes.operand

  load_is : one.load ≡ instruction op.L (Rx loads.number 0 handed.argument.base handed.argument.displacement)
  load_is =
      loads.takes.is ∙ ap (λ n. instruction op.L (Rx loads.number n loads.takes.address.base loads.takes.address.displacement)) one_place.index.1
      ∙ ap (λ (a : Address). instruction op.L (Rx loads.number 0 a.base a.displacement)) (sym one_place.resolved)

  place_even : place % 2 ≡ 0
  unfolding own
  place_even =
      let state = state_after after_call in
      let there : HasFirst whole bases after_call place (made_item line (load register)) = record { instruction = one.load; resolved = one.resolved } in
      let at = first_offset whole bases after_call place line (load register) there in
      let offset = offset_is (load register) op.L state (l_role (register ++ codes ",DFHEITP")) in
      ap (λ n. n % 2) (sym at ∙ offset) ∙ even (next_in state)
    where
      even : (n : ℕ) → align 2 n % 2 ≡ 0
      even n = omega arith

  place_small : place ≤ 65536
  place_small =
      let lines_so : assembly.section.resolved ≡ (all.code.front ++ code_lines all.code.at all.calls) ++ code_lines place (one.load ∷ one.rest) ++ all.code.back =
      all.code.stand ∙ ap (λ k. all.code.front ++ k ++ all.code.back) (ap (code_lines all.code.at) code_so ∙ lines_joined all.code.at all.calls (one.load ∷ one.rest))
      ∙ ap (λ k. k ++ all.code.back) (sym (append_assoc all.code.front (code_lines all.code.at all.calls) (code_lines place (one.load ∷ one.rest)))) in
      code_within assembly.section (all.code.front ++ code_lines all.code.at all.calls) all.code.back place one.load one.rest (laws.texts source assembly accepts) lines_so

  -- at a machine
  gets : (storage loaded : Storage) (program : Loaded) (sections : Sections) (regs : List ℕ) (m : Machine) (word : ℕ) → IsFit assembly.section.image
      → IsLoaded storage assembly.section.image program loaded → HoldsBase sections regs bases handed.argument.base
      → IsMachine m → m.next ≡ address_after program.at place → AreKept loaded m.storage (address_after program.at place) 4 → HoldsBase sections m.regs bases handed.argument.base → word_at m.storage (argument_address regs handed.argument) ≡ Some word
      → Steps m Done (record m { regs = slice_set m.regs loads.number word; next = address_after m.next 4 })
  gets storage loaded program sections regs m word fit done holds machine next load held e =
      let a = handed.argument in
      let code = subst (AreAt loaded (address_after program.at all.code.at)) code_so (laws.code source assembly first _ storage loaded program accepts fit done all.code) in
      let there : AreAt loaded (address_after program.at place) (instruction op.L (Rx loads.number 0 a.base a.displacement) ∷ []) =
      subst (λ k. AreAt loaded (address_after program.at place) (k ∷ [])) load_is (stands_after loaded program.at all.code.at place all.calls one.load one.rest refl code) in
      let later = later_is bases a loads.takes.index loads.takes.address one_place sections regs m.regs holds held in
      load_goes laws.spans laws.gives loaded program.at place loads.number a.base a.displacement word m (is_placed storage (length assembly.section.image.text) program.at done.place) place_even place_small
      there machine next load (ap (word_at m.storage) (sym later) ∙ e)

  abbrev site : Site
  site = record { source = source; first = first; line = line; command = command; words = words }

  pub comes_back : code_length all.calls ≡ code_length (made_code s) → PointerComesBack site assembly.section.image all.code.at s before register
  comes_back counted =
      record {
        argument = handed.argument;
        handed = handed.at;
        number = loads.number;
        named = loads.named;
        gets = λ storage loaded program sections regs m word fit done holds machine next load held e.
            let there : m.next ≡ address_after program.at place = next ∙ ap (λ n. address_after program.at (all.code.at + n)) (sym counted) in
            gets storage loaded program sections regs m word fit done holds machine there (subst (λ n. AreKept loaded m.storage n 4) there load) held e;
      }
