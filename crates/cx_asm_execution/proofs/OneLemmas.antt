-- A statement is determined by where its made statements are and what they are made of.
use Rattle.std.proofs.Common.{◌≡◌, ℕ, ◌+◌, Some, Ok, List, [], ◌∷◌, ◌++◌, refl, sym, ◌∙◌, ap}
use Rattle.std.specs.Prelude.{Option, Result}
use Rattle.cx_asm_execution.specs.Expansion.{Argument, ImpliedAddress, Statement, instructions_made, store_instructions, words_of_list}
use Rattle.cx_code.specs.declared.instruction.Fields.{Fields}
use Rattle.cx_code.specs.declared.instruction.Fields.TheVariants.{Rx, Si}
use Rattle.cx_code.specs.declared.table.Op.{Op}
use Rattle.cx_code.specs.declared.table.Op.TheVariants as op
use Rattle.cx_code.specs.Spelling.{Instruction, instruction}
use Rattle.cx_code.specs.Table.{length_of}
use Rattle.cx_base.specs.declared.commands.Command.{Command}
use Rattle.cx_base.specs.declared.legal.ListedCondition.{ListedCondition}
use Rattle.cx_source.specs.declared.source.Item.{Item}
use Rattle.cx_source.specs.declared.source.Stmt.{Stmt}
use Rattle.cx_asm_expressions.specs.declared.faults.FaultKind.{FaultKind}
use Rattle.cx_translate.specs.Expansion.{made_item}
use Rattle.cx_asm_execution.specs.Arrival.{IsStatement}
use Rattle.cx_asm_execution.specs.MadeLines.{AreResolved, Site, lines_after, statements_of_call}

-- ---- records with equal fields
abbrev block_argument : Statement → Argument
block_argument s = record { index = 0; base = s.block.base; displacement = s.block.displacement; word = s.head }

abbrev based_of : ℕ → ℕ → ImpliedAddress
based_of base displacement = record { base = base; displacement = displacement }

based_is : (a b : ImpliedAddress) → a.base ≡ b.base → a.displacement ≡ b.displacement → a ≡ b
based_is a b base displacement = ap (λ (x : ℕ). based_of x a.displacement) base ∙ ap (based_of b.base) displacement

abbrev argument_of : ℕ → ℕ → ℕ → ImpliedAddress → Argument
argument_of index base displacement word = record { index = index; base = base; displacement = displacement; word = word }

argument_is : (a b : Argument) → a.index ≡ b.index → a.base ≡ b.base → a.displacement ≡ b.displacement → a.word ≡ b.word → a ≡ b
argument_is a b index base displacement word =
    ap (λ (x : ℕ). argument_of x a.base a.displacement a.word) index ∙ ap (λ (x : ℕ). argument_of b.index x a.displacement a.word) base
    ∙ ap (λ (x : ℕ). argument_of b.index b.base x a.word) displacement ∙ ap (argument_of b.index b.base b.displacement) word

-- ---- the instructions
codes_are : (site : Site) (before : List Item) (at other : ℕ) (ss : List Stmt) (one two : List Instruction) → AreResolved site before at ss one → AreResolved site before other ss two → one ≡ two
unfolding AreResolved
codes_are site before at other [] [] [] a b = refl
codes_are site before at other [] [] (j ∷ two) a b = absurd b
codes_are site before at other [] (i ∷ one) two a b = absurd a
codes_are site before at other (s ∷ ss) [] two a b = absurd a
codes_are site before at other (s ∷ ss) (i ∷ one) [] a b = absurd b
codes_are site before at other (s ∷ ss) (i ∷ one) (j ∷ two) a b =
    let found : ◌≡◌ {A = Option (Result Instruction FaultKind)} (Some (Ok i)) (Some (Ok j)) = sym a.0.1 ∙ b.0.1 in
    let same : i ≡ j = cc in
    let rest = codes_are site (made_item site.line s ∷ before) (at + length_of i.op) (other + length_of j.op) ss one two a.1 b.1 in
    rw (same, rest) refl

-- ---- what they are made of
record Same (xs ys : List Argument) (p q : List Instruction) : Type 0 where
  arguments : xs ≡ ys
  after : p ≡ q

same_fields : (o : Op) (a b : Fields) (p q : List Instruction) → instruction o a ∷ p ≡ instruction o b ∷ q → (a ≡ b) × (p ≡ q)
same_fields o a b p q e = (let one : instruction o a ≡ instruction o b = cc in ap (λ (i : Instruction). i.fields) one, cc)

no_load : (a b : Fields) (p q : List Instruction) → instruction op.Oi a ∷ p ≡ instruction op.La b ∷ q → ⊥
no_load a b p q e =
    let one : instruction op.Oi a ≡ instruction op.La b = cc in
    let ops : op.Oi ≡ op.La = ap (λ (i : Instruction). i.op) one in
    absurd (cc)

stores_are : (xs ys : List Argument) (b d b' d' : ℕ) (p q : List Instruction)
    → store_instructions xs ++ instruction op.Oi (Si 128 b d) ∷ p ≡ store_instructions ys ++ instruction op.Oi (Si 128 b' d') ∷ q
    → Same xs ys (instruction op.Oi (Si 128 b d) ∷ p) (instruction op.Oi (Si 128 b' d') ∷ q)
stores_are [] [] b d b' d' p q e = record { arguments = refl; after = e }
stores_are [] (y ∷ ys) b d b' d' p q e = absurd (no_load (Si 128 b d) (Rx 0 y.index y.base y.displacement) _ _ e)
stores_are (x ∷ xs) [] b d b' d' p q e = absurd (no_load (Si 128 b' d') (Rx 0 x.index x.base x.displacement) _ _ (sym e))
stores_are (x ∷ xs) (y ∷ ys) b d b' d' p q e =
    let load = same_fields op.La (Rx 0 x.index x.base x.displacement) (Rx 0 y.index y.base y.displacement) _ _ e in
    let store = same_fields op.St (Rx 0 0 x.word.base x.word.displacement) (Rx 0 0 y.word.base y.word.displacement) _ _ load.1 in
    let index : x.index ≡ y.index = (let f = load.0 in cc) in
    let base : x.base ≡ y.base = (let f = load.0 in cc) in
    let displacement : x.displacement ≡ y.displacement = (let f = load.0 in cc) in
    let word_base : x.word.base ≡ y.word.base = (let f = store.0 in cc) in
    let word_displacement : x.word.displacement ≡ y.word.displacement = (let f = store.0 in cc) in
    let first = argument_is x y index base displacement (based_is x.word y.word word_base word_displacement) in
    let rest = stores_are xs ys b d b' d' p q store.1 in
    record { arguments = rw (first, rest.arguments) refl; after = rest.after }

-- ---- the statement
abbrev statement_of : Command → ℕ → ℕ → List ListedCondition → ImpliedAddress → ImpliedAddress → List Argument → ImpliedAddress → ImpliedAddress → ImpliedAddress → Statement
statement_of command first second conditions block head arguments last list entry = record {
  command = command;
  first = first;
  second = second;
  conditions = conditions;
  block = block;
  head = head;
  arguments = arguments;
  last = last;
  list = list;
  entry = entry;
}

pub statements_decide : (site : Site) (at other : ℕ) (s t : Statement) → IsStatement site at s → IsStatement site other t → s ≡ t
unfolding instructions_made
statements_decide site at other s t one two =
    let code = codes_are site (lines_after site []) at other (statements_of_call site) (instructions_made s) (instructions_made t) one.resolved two.resolved in
    let split = stores_are (words_of_list s) (words_of_list t) s.last.base s.last.displacement t.last.base t.last.displacement _ _ code in
    let all = split.arguments in
    let handed : block_argument s ≡ block_argument t = cc in
    let block : s.block ≡ t.block = based_is s.block t.block (ap (λ (a : Argument). a.base) handed) (ap (λ (a : Argument). a.displacement) handed) in
    let head : s.head ≡ t.head = ap (λ (a : Argument). a.word) handed in
    let arguments : s.arguments ≡ t.arguments = cc in
    let marks = same_fields op.Oi (Si 128 s.last.base s.last.displacement) (Si 128 t.last.base t.last.displacement) _ _ split.after in
    let takes = same_fields op.La (Rx 1 0 s.list.base s.list.displacement) (Rx 1 0 t.list.base t.list.displacement) _ _ marks.1 in
    let loads = same_fields op.L (Rx 15 0 s.entry.base s.entry.displacement) (Rx 15 0 t.entry.base t.entry.displacement) _ _ takes.1 in
    let last : s.last ≡ t.last = based_is s.last t.last (let f = marks.0 in cc) (let f = marks.0 in cc) in
    let list : s.list ≡ t.list = based_is s.list t.list (let f = takes.0 in cc) (let f = takes.0 in cc) in
    let entry : s.entry ≡ t.entry = based_is s.entry t.entry (let f = loads.0 in cc) (let f = loads.0 in cc) in
    let first = one.first ∙ sym two.first in
    let second = one.second ∙ sym two.second in
    let conditions = one.conditions ∙ sym two.conditions in
    let named = one.command ∙ sym two.command in
    let same : statement_of s.command s.first s.second s.conditions s.block s.head s.arguments s.last s.list s.entry
    ≡ statement_of t.command t.first t.second t.conditions t.block t.head t.arguments t.last t.list t.entry = rw (named, first, second, conditions, block, head, arguments, last, list, entry) refl in
    same
