-- The instructions of a call, operand by operand.
use Rattle.std.specs.Prelude.{Result, codes, decimal, reverse}
use Rattle.std.specs.Option.{ok_or, option_map_or}
use Rattle.std.proofs.Common.{◌≡◌, ℕ, ◌+◌, ◌*◌, true, false, ◌==◌, Some, Ok, Err, List, [], ◌∷◌, ◌++◌, drop, length, refl, sym, ◌∙◌, ap, subst, arith}
use Rattle.std.proofs.lemmas.Bool.Decides.{nat_tests}
use Rattle.std.proofs.lemmas.List.{append_assoc, map-append, reverse-append}
use Rattle.cx_asm_execution.specs.Expansion.{Argument, Statement, branch as made_branch, instructions_made as made_code, store_instructions as made_stores, words_of_list}
use Rattle.cx_code.specs.Spelling.{Instruction, instruction}
use Rattle.cx_code.specs.Table.{length_of}
use Rattle.cx_code.specs.declared.table.Op.TheVariants as op
use Rattle.cx_code.specs.declared.instruction.Fields.TheVariants.{Rr, Rx, Si}
use Rattle.cx_base.specs.declared.commands.Command.{Command}
use Rattle.cx_source.specs.Marks.{scan_depth_after, within_after}
use Rattle.cx_source.specs.declared.source.Item.{Item}
use Rattle.cx_asm_expressions.specs.declared.faults.FaultKind.{FaultKind}
use Rattle.cx_asm_expressions.specs.declared.faults.FaultKind.TheVariants.{BadOperand}
use Rattle.cx_asm_expressions.specs.declared.values.Value.{Value}
use Rattle.cx_translate.specs.declared.words.Word.{Word}
use Rattle.cx_translate.specs.Call.{block_bytes, block_literal, list_of, listed_of}
use Rattle.cx_translate.specs.Expansion.{call, made_item, stores}
use Rattle.cx_translate.specs.Refusals.{first_byte, second_byte}
use Rattle.cx_translate.specs.Sections.{lines}
use Rattle.cx_asm_operands.specs.Addresses.{implied_address}
use Rattle.cx_asm_operands.specs.Bases.{Bases}
use Rattle.cx_asm_operands.specs.Context.{Context, expression_value}
use Rattle.cx_asm_operands.specs.Checking.{then_check}
use Rattle.cx_asm_operands.specs.Storage.{indexed_by, indexed_in, is_literal, operand, operand_in, Operand}
use Rattle.cx_asm_operands.specs.declared.addresses.Address.{Address}
use Rattle.cx_asm_pass2.specs.Whole.{Whole}
use Rattle.cx_asm_execution.proofs.Calls.{MarkIsResolved}
use Rattle.cx_asm_execution.proofs.Commands.{AreArguments, CallsAreMade, after_list, after_mark, after_stores, last_word}
use Rattle.cx_asm_execution.proofs.Resolved.{AreResolved}
use Rattle.cx_asm_execution.proofs.Stores.{AreStores, StoresAreResolved, context_of, entry_in_15, list_of_1, load_of, store_of, word_of_list}
use Rattle.cx_asm_execution.proofs.ArgumentLemmas.{both_ok}
use Rattle.cx_asm_laws.specs.Facts.Plain.{ArePlain, decimal_plain}
use Rattle.cx_asm_execution.proofs.WordLemmas.{no_parenthesis}

-- ---- lines in two parts
record Splits (whole : Whole) (bases : Bases) (before : List Item) (at : ℕ) (xs ys : List Item) (code : List Instruction) : Type 0 where
  one : List Instruction
  two : List Instruction
  is : code ≡ one ++ two
  end : ℕ
  front : AreResolved whole bases before at xs one
  back : AreResolved whole bases (reverse xs ++ before) end ys two

resolved_split : (whole : Whole) (bases : Bases) (before : List Item) (at : ℕ) (xs ys : List Item) (code : List Instruction) → AreResolved whole bases before at (xs ++ ys) code
    → Splits whole bases before at xs ys code
unfolding AreResolved
resolved_split whole bases before at [] ys code r = record { one = []; two = code; is = refl; end = at; front = tt; back = r }
resolved_split whole bases before at (x ∷ xs) ys [] r = absurd r
resolved_split whole bases before at (x ∷ xs) ys (i ∷ code) r =
    let more = resolved_split whole bases (x ∷ before) (at + length_of i.op) xs ys code r.1 in
    let turn : reverse xs ++ (x ∷ before) ≡ reverse (x ∷ xs) ++ before = sym (ap (λ k. k ++ before) (reverse-append (x ∷ []) xs) ∙ append_assoc (reverse xs) (x ∷ []) before) in
    record {
      one = i ∷ more.one;
      two = more.two;
      is = ap (λ k. i ∷ k) more.is;
      end = more.end;
      front = (r.0, more.front);
      back = subst (λ k. AreResolved whole bases k more.end ys more.two) turn more.back;
    }

-- ---- operands without an index
alone : (c : Context) (text : List ℕ) (place : Result Value FaultKind) (x : ℕ) (address : Address) → operand_in true c text ≡ Some (operand place [])
    → indexed_in c text ≡ Ok (x, address) → x ≡ 0
unfolding indexed_in
alone c text place x address is e =
    let found : indexed_by c place [] ≡ Ok (x, address) = subst (λ o. option_map_or (λ (o : Operand). indexed_by c o.place o.subfields) o (Err BadOperand) ≡ Ok (x, address)) is e in
    let parts = both_ok (Ok 0) (then_check (implied_address c.bases) place) x address found in
    let same = parts.0 in
    cc

list_index : (c : Context) (x : ℕ) (address : Address) → indexed_in c (codes "DFHEIPL") ≡ Ok (x, address) → x ≡ 0
unfolding operand_in within_after scan_depth_after
list_index c x address e = alone c (codes "DFHEIPL") (expression_value c (codes "DFHEIPL")) x address refl e

literal_index : (c : Context) (text : List ℕ) (x : ℕ) (address : Address) → is_literal text ≡ true → indexed_in c text ≡ Ok (x, address) → x ≡ 0
unfolding operand_in
literal_index c text x address is e = alone c text (ok_or c.literal BadOperand) x address (rw is refl) e

word_operand : (c : Context) (text : List ℕ) → ArePlain text → operand_in true c (codes "DFHEIPL+" ++ text) ≡ Some (operand (expression_value c (codes "DFHEIPL+" ++ text)) [])
unfolding operand_in within_after scan_depth_after
word_operand c text plain =
    let tail = no_parenthesis (record { within = false; depth = 0; before = 76; last = 43 }) text plain in
    let same : (1 + (1 + (1 + (1 + (1 + (1 + (1 + (1 + length text))))))) == length (codes "DFHEIPL+" ++ text)) ≡ true = grind (arith, nat_tests) in
    rw (tail, same) refl

word_index : (c : Context) (k x : ℕ) (address : Address) → indexed_in c (word_of_list k) ≡ Ok (x, address) → x ≡ 0
word_index c k x address e =
    alone c (word_of_list k) (expression_value c (word_of_list k)) x address (word_operand c (decimal (4 * k)) (decimal_plain (4 * k))) e

-- ---- the stores
abbrev argument : ℕ → Address → Address → Argument
argument index at word = record { index = index; base = at.base; displacement = at.displacement; word = record { base = word.base; displacement = word.displacement } }

record HaveArguments (whole : Whole) (bases : Bases) (line : ℕ) (before : List Item) (k : ℕ) (list : List (List ℕ)) (code : List Instruction) : Type 0 where
  arguments : List Argument
  are : AreArguments whole bases line before k list arguments
  is : code ≡ made_stores arguments

have_arguments : (whole : Whole) (bases : Bases) (line : ℕ) (before : List Item) (k : ℕ) (list : List (List ℕ)) (code : List Instruction) → AreStores whole bases line before k list code
    → HaveArguments whole bases line before k list code
unfolding AreStores AreArguments
have_arguments whole bases line before k [] [] r = record { arguments = []; are = tt; is = refl }
have_arguments whole bases line before k [] (i ∷ code) r = absurd r
have_arguments whole bases line before k (text ∷ list) [] r = absurd r
have_arguments whole bases line before k (text ∷ list) (i ∷ []) r = absurd r
have_arguments whole bases line before k (text ∷ list) (i ∷ j ∷ code) r =
    let load = r.0 in
    let store = r.1 in
    let zero = word_index (context_of whole bases line (made_item line (load_of text) ∷ before) (store_of k)) k store.index store.address store.operand in
    let more = have_arguments whole bases line (made_item line (store_of k) ∷ made_item line (load_of text) ∷ before) (k + 1) list code r.2 in
    record {
      arguments = argument load.index load.address store.address ∷ more.arguments;
      are = (load.operand, store.operand ∙ ap (λ n. Ok (n, store.address)) zero, more.are);
      is =
          ap (λ o. o ∷ j ∷ code) load.is
          ∙ ap (λ o. instruction op.La (Rx 0 load.index load.address.base load.address.displacement) ∷ o ∷ code) (store.is ∙ ap (λ n. instruction op.St (Rx 0 n store.address.base store.address.displacement)) zero)
          ∙ ap (λ o. instruction op.La (Rx 0 load.index load.address.base load.address.displacement) ∷ instruction op.St (Rx 0 0 store.address.base store.address.displacement) ∷ o) more.is;
    }

-- the first word's argument is the block's literal
abbrev pub rest_of : Command → List Word → List (List ℕ)
rest_of command words = drop 1 (list_of command words)

pub list_begins : (command : Command) (words : List Word) → list_of command words ≡ block_literal (block_bytes command words) ∷ rest_of command words
unfolding list_of
list_begins command words = refl

record HaveWords (whole : Whole) (bases : Bases) (line : ℕ) (before : List Item) (list : List (List ℕ)) (code : List Instruction) : Type 0 where
  block : Address
  head : Address
  arguments : List Argument
  are : AreArguments whole bases line before 0 list (argument 0 block head ∷ arguments)
  is : code ≡ made_stores (argument 0 block head ∷ arguments)

have_words : (whole : Whole) (bases : Bases) (line : ℕ) (before : List Item) (text : List ℕ) (list : List (List ℕ)) (code : List Instruction) → is_literal text ≡ true
    → AreStores whole bases line before 0 (text ∷ list) code → HaveWords whole bases line before (text ∷ list) code
unfolding AreArguments
have_words whole bases line before text list code literal r =
    let all = have_arguments whole bases line before 0 (text ∷ list) code r in
    go all.arguments all.are all.is
  where
    go : (arguments : List Argument) → AreArguments whole bases line before 0 (text ∷ list) arguments → code ≡ made_stores arguments → HaveWords whole bases line before (text ∷ list) code
    go [] are is = absurd are
    go (a ∷ arguments) are is =
        let zero : a.index ≡ 0 = literal_index (context_of whole bases line before (load_of text)) text a.index (record { base = a.base; displacement = a.displacement }) literal are.0 in
        let same : a ≡ record a { index = 0 } = ap (λ n. record a { index = n }) zero in
        record {
          block = record { base = a.base; displacement = a.displacement };
          head = record { base = a.word.base; displacement = a.word.displacement };
          arguments = arguments;
          are = subst (λ k. AreArguments whole bases line before 0 (text ∷ list) (k ∷ arguments)) same are;
          is = is ∙ ap (λ k. made_stores (k ∷ arguments)) same;
        }

-- ---- the call
pub calls_made : StoresAreResolved → MarkIsResolved → CallsAreMade
unfolding made_code
calls_made stored marked whole bases line at before command words code r =
    let list = list_of command words in
    let n = last_word command words in
    let split = resolved_split whole bases before at (lines line (stores 0 list)) (lines line (call n)) code
    (subst (λ k. AreResolved whole bases before at k code) (map-append (made_item line) (stores 0 list) (call n)) r) in
    let front : AreStores whole bases line before 0 (block_literal (block_bytes command words) ∷ rest_of command words) split.one =
    subst (λ k. AreStores whole bases line before 0 k split.one) (list_begins command words) (stored whole bases line at 0 before list split.one split.front) in
    let made = have_words whole bases line before (block_literal (block_bytes command words)) (rest_of command words) split.one refl front in
    let back = marked whole bases line split.end n (after_stores line before command words) split.two split.back in
    let last = back.marks in
    let end = back.calls in
    let listed = list_index (context_of whole bases line (after_mark line before command words) list_of_1) end.loads.index end.loads.address end.loads.operand in
    let entered = literal_index (context_of whole bases line (after_list line before command words) entry_in_15) (codes "=V(DFHEI1)") end.takes.index end.takes.address refl end.takes.operand in
    let s : Statement = record {
      command = command;
      first = first_byte command words;
      second = second_byte words;
      conditions = listed_of words;
      block = record { base = made.block.base; displacement = made.block.displacement };
      head = record { base = made.head.base; displacement = made.head.displacement };
      arguments = made.arguments;
      last = record { base = last.address.base; displacement = last.address.displacement };
      list = record { base = end.loads.address.base; displacement = end.loads.address.displacement };
      entry = record { base = end.takes.address.base; displacement = end.takes.address.displacement };
    } in
    let tail : split.two ≡ made_branch s =
    back.is ∙ ap (λ o. o ∷ back.branch) last.is
    ∙ ap (λ o. instruction op.Oi (Si 0x80 last.address.base last.address.displacement) ∷ o) (end.is
    ∙ ap (λ o. o ∷ end.entry ∷ instruction op.Balr (Rr 14 15) ∷ []) (end.loads.is ∙ ap (λ n. instruction op.La (Rx 1 n end.loads.address.base end.loads.address.displacement)) listed)
    ∙ ap (λ o. instruction op.La (Rx 1 0 end.loads.address.base end.loads.address.displacement) ∷ o ∷ instruction op.Balr (Rr 14 15) ∷ [])
    (end.takes.is ∙ ap (λ n. instruction op.L (Rx 15 n end.takes.address.base end.takes.address.displacement)) entered)) in
    record {
      statement = s;
      is = record {
        for_command = refl;
        first = refl;
        second = refl;
        conditions = refl;
        arguments = subst (λ k. AreArguments whole bases line before 0 k (words_of_list s)) (sym (list_begins command words)) made.are;
        last = last.operand;
        list = end.loads.operand ∙ ap (λ n. Ok (n, end.loads.address)) listed;
        entry = end.takes.operand ∙ ap (λ n. Ok (n, end.takes.address)) entered;
      };
      made = split.is ∙ ap (λ k. k ++ split.two) made.is ∙ ap (λ k. made_stores (words_of_list s) ++ k) tail;
    }
