-- A machine that is about to perform a loaded statement's instructions is one that arrives.
use Rattle.std.specs.Prelude.{codes, option_map, pos, reverse, slice_get}
use Rattle.std.proofs.Common.{zero, suc, ◌≡◌, ◌≤◌, ◌<◌, ℕ, ◌+◌, ◌*◌, ◌^◌, ◌%◌, Some, None, Ok, List, [], ◌∷◌, ◌++◌, drop, length, take, sym, ◌∙◌, ap, subst, arith}
use Rattle.std.proofs.lemmas.List.{append_assoc, map-append, reverse-append, reverse-reverse}
use Rattle.cx_asm_execution.specs.Arrives.{Arrives}
use Rattle.cx_asm_execution.specs.Laws.Entry.{MadeAreCounted, ReachesEntry}
use Rattle.cx_asm_execution.specs.Expansion.{Argument, Statement, resolved_block_bytes as statement_bytes, instructions_made as made_code, address_reached, words_of_list}
use Rattle.cx_asm_execution.specs.Stands.{AreAt, IsListAddressed, IsClear, StandsInStorage, code_length}
use Rattle.cx_base.specs.declared.commands.Command.{Command}
use Rattle.cx_exec.specs.Machine.{Machine}
use Rattle.cx_exec.specs.Step.{entry}
use Rattle.cx_load.specs.Fault.{IsFit}
use Rattle.cx_load.specs.Program.{IsLoaded}
use Rattle.cx_load.specs.declared.program.Loaded.{Loaded}
use Rattle.cx_source.specs.declared.source.Item.{Item}
use Rattle.cx_source.specs.declared.source.Source.{Source}
use Rattle.cx_storage.specs.Address.{address_after}
use Rattle.cx_storage.specs.Laws.Spans.{SpanIsBytes}
use Rattle.cx_storage.specs.Storage.{Storage, span}
use Rattle.cx_code.specs.declared.table.Op.TheVariants as op
use Rattle.cx_translate.specs.declared.words.Word.{Word}
use Rattle.cx_translate.specs.Call.{block_bytes, list_of}
use Rattle.cx_translate.specs.Expansion.{call, label, made_item, stmt, stores}
use Rattle.cx_translate.specs.Refusals.{fault_in}
use Rattle.cx_translate.specs.Sections.{lines}
use Rattle.cx_translate.specs.Words.{words_of as words_of_operand}
use Rattle.cx_asm_pass1.specs.PassState.{state_after, next_in}
use Rattle.cx_asm_pass1.specs.Layout.{align}
use Rattle.cx_asm_operands.specs.Addresses.{address}
use Rattle.cx_asm_operands.specs.Bases.{Bases}
use Rattle.cx_asm_operands.specs.Context.{Context}
use Rattle.cx_asm_operands.specs.declared.addresses.Address.{Address}
use Rattle.cx_asm_pass2.specs.Whole.{Whole, whole_of}
use Rattle.cx_asm.specs.Assembly.{AssemblyParts, assembly_of}
use Rattle.cx_code.specs.Spelling.{Instruction}
use Rattle.cx_code.specs.Table.{length_of}
use Rattle.cx_source.specs.declared.source.Stmt.{Stmt}
use Rattle.cx_asm_operations.specs.Operations.{operation_named}
use Rattle.cx_asm_operands.specs.Forms.{instruction_or_fault}
use Rattle.cx_asm_pass1.specs.PassState.{place_in}
use Rattle.cx_asm_execution.specs.Arguments.{IsAddressed as IsAddressedBy, Sections}
use Rattle.cx_asm_execution.specs.Arrival.{AreKept, CommandsArrive, IsReady}
use Rattle.cx_asm_execution.specs.MadeLines.{AreResolved, IsMade, IsResolved, Site, bases_of, lines_after, statements_of_call, code_lines, context_in, site_of}
use Rattle.cx_asm_execution.proofs.Arguments.{OperandsAddress}
use Rattle.cx_asm_execution.proofs.Called.{call_statements}
use Rattle.cx_asm_execution.proofs.Calls.{mark_of}
use Rattle.cx_asm_execution.proofs.CodeInStorage.{CodeIsLoaded}
use Rattle.cx_asm_execution.proofs.Commands.{AreArguments, CallsAreMade, IsStatementOf, ResolvesTo, after_list, after_mark, after_stores, last_word}
use Rattle.cx_asm_execution.proofs.Handed.{BlockStands, EntryStands, LiteralsAreLoaded, block_of}
use Rattle.cx_asm_execution.proofs.InStorage.{TextsAreMade}
use Rattle.cx_asm_execution.proofs.Literals.{StandsInSection}
use Rattle.cx_asm_execution.proofs.Pointers.{LoadsPointers, pointer_loads}
use Rattle.cx_asm_execution.proofs.Resolved.{AreResolved as AreResolvedLines, IsResolved as IsResolvedLine, StandInCode, bases_in_use}
use Rattle.cx_asm_execution.proofs.Stores.{context_of, entry_in_15, list_of_1, load_of, store_of}
use Rattle.cx_asm_execution.proofs.Words.{HasSomeList, ListIsPlaced, ListLies, WordsLie}
use Rattle.cx_asm_execution.proofs.CalledLemmas.{call_begins, first_of, first_offset, la_role, made_split, named_so, tail_of}
use Rattle.cx_asm_execution.proofs.StandingLemmas.{accepted, offset_is}
use Rattle.cx_asm_execution.proofs.KeptLemmas.{code_kept, code_within, is_placed, span_kept, word_kept}
use Rattle.cx_asm_execution.proofs.LegalLemmas.{Accepts, legal_so, same_bytes, same_words}
use Rattle.cx_asm_execution.proofs.MadeLemmas.{list_begins, rest_of}
use Rattle.cx_asm_execution.proofs.PlaceLemmas.{HasBase, HaveWords, have_words, lies_at}
use Rattle.cx_asm_execution.proofs.PointerLemmas.{loads_pointers}
use Rattle.cx_asm_execution.proofs.ReturnedLemmas.{comes_back, lines_joined, Laws as ReturnLaws}
use Rattle.cx_asm_execution.proofs.TogetherLemmas.{made_items, no_fault_in, stand_together, words_after}

-- what the laws say
pub record Laws : Type 0 where
  pub accepts : Accepts
  pub addresses : OperandsAddress
  pub placed : ListIsPlaced
  pub list : ListLies
  pub words : WordsLie
  pub block : BlockStands
  pub entry : EntryStands
  pub loaded : LiteralsAreLoaded
  pub code : CodeIsLoaded
  pub texts : TextsAreMade
  pub spans : SpanIsBytes
  pub counted : MadeAreCounted
  pub reaches : ReachesEntry

-- a statement of an accepted translation, whose made statements come after some lines
pub record Case (translated : Source) (assembly : AssemblyParts) (line : ℕ) (first : List Item) (command : Command) (words : List Word) (s : Statement) : Type 0 where
  pub accepts : assembly_of translated ≡ Ok assembly
  pub rest : List Item
  pub items : translated.items ≡ first ++ lines line (call_statements command words) ++ rest
  pub cics : List Word
  pub named : List Word
  pub accepted : fault_in line command cics named words ≡ None
  pub code : StandInCode translated first (lines line (call_statements command words)) assembly.section.resolved
  pub statement : IsStatementOf (whole_of translated) (bases_in_use translated first) line (reverse first) command words s
  pub made : code.code ≡ made_code s

-- the control section is where the program was loaded
abbrev IsControl : Sections → Source → ℕ → Type 0
IsControl sections source at = (name : List ℕ) (offset : ℕ) → (whole_of source).control ≡ Some name → sections.place name (pos offset) ≡ address_after at offset

-- ---- the literals
abbrev based : Address → Rattle.cx_asm_execution.specs.Expansion.ImpliedAddress
based at = record { base = at.base; displacement = at.displacement }

literal_at : (source : Source) (assembly : AssemblyParts) (c : Context) (bytes : List ℕ) (index : ℕ) (at : Address) (sections : Sections) (regs : List ℕ) (program : ℕ)
    → (stands : StandsInSection source assembly c bytes index at) → IsControl sections source program → HasBase sections regs c.bases (based at)
    → address_reached regs (based at) ≡ address_after program stands.offset
literal_at source assembly c bytes index at sections regs program stands loaded has =
    lies_at c stands.section _ 0 at sections regs stands.lies has ∙ ap (λ p. address_after p 0) (loaded stands.section stands.offset stands.control) ∙ again program stands.offset
  where
    again : (p n : ℕ) → address_after (address_after p n) 0 ≡ address_after p n
    again p n = omega arith

literal_kept : Laws → (source : Source) (assembly : AssemblyParts) (c : Context) (bytes : List ℕ) (index : ℕ) (at : Address) (sections : Sections) (regs : List ℕ)
    → (storage loaded : Storage) (program : Loaded) → (stands : StandsInSection source assembly c bytes index at) → assembly_of source ≡ Ok assembly → IsFit assembly.section.image
    → IsLoaded storage assembly.section.image program loaded → IsControl sections source program.at → HasBase sections regs c.bases (based at)
    → span loaded (address_reached regs (based at)) (length bytes) ≡ Some bytes
literal_kept laws source assembly c bytes index at sections regs storage loaded program stands is fit done there has =
    ap (λ a. span loaded a (length bytes)) (literal_at source assembly c bytes index at sections regs program.at stands there has)
    ∙ laws.loaded source assembly c bytes index at storage loaded program is fit done stands

module _ (laws : Laws) (translated : Source) (assembly : AssemblyParts) (line : ℕ) (first : List Item) (command : Command) (words : List Word) (s : Statement)
    (case : Case translated assembly line first command words s) where
  block_resolves : ResolvesTo (whole_of translated) (bases_in_use translated first) line (reverse first) (load_of (block_of command words)) (block_of command words) 0 s.block.base s.block.displacement
  unfolding AreArguments
  block_resolves =
      let all : AreArguments (whole_of translated) (bases_in_use translated first) line (reverse first) 0 (block_of command words ∷ rest_of command words) (words_of_list s) =
      subst (λ k. AreArguments (whole_of translated) (bases_in_use translated first) line (reverse first) 0 k (words_of_list s)) (list_begins command words) case.statement.arguments in
      all.0

  block_stands : StandsInSection translated assembly (context_of (whole_of translated) (bases_in_use translated first) line (reverse first) (load_of (block_of command words)))
      (block_bytes command words) 0 (address s.block.base s.block.displacement)
  block_stands =
      laws.block translated assembly (bases_in_use translated first) line line (reverse first) (tail_of line command words ++ case.rest) command case.cics case.named words 0 (address s.block.base s.block.displacement)
      case.accepts case.accepted
      (case.items ∙ ap (λ k. first ++ k ++ case.rest) (call_begins line command words) ∙ append_assoc first (made_item line (load_of (block_of command words)) ∷ tail_of line command words) case.rest
      ∙ ap (λ k. k ++ (made_item line (load_of (block_of command words)) ∷ (tail_of line command words ++ case.rest))) (sym (reverse-reverse first)))
      block_resolves

  -- the lines before the entry's statement
  before_entry : List Item
  before_entry = first ++ lines line (stores 0 (list_of command words)) ++ (made_item line (mark_of (last_word command words)) ∷ made_item line list_of_1 ∷ [])

  entry_turned : reverse before_entry ≡ after_list line (reverse first) command words
  unfolding before_entry
  entry_turned =
      reverse-append (first ++ lines line (stores 0 (list_of command words))) (made_item line (mark_of (last_word command words)) ∷ made_item line list_of_1 ∷ [])
      ∙ ap (λ k. made_item line list_of_1 ∷ made_item line (mark_of (last_word command words)) ∷ k) (reverse-append first (lines line (stores 0 (list_of command words))))

  entry_items : translated.items ≡ before_entry ++ (made_item line entry_in_15 ∷ made_item line (stmt [] (codes "BALR") (codes "14,15")) ∷ case.rest)
  unfolding before_entry
  entry_items =
      let front = lines line (stores 0 (list_of command words)) in
      let back = lines line (call (last_word command words)) in
      let one = made_item line (mark_of (last_word command words)) ∷ made_item line list_of_1 ∷ [] in
      let two = made_item line entry_in_15 ∷ made_item line (stmt [] (codes "BALR") (codes "14,15")) ∷ [] in
      case.items ∙ ap (λ k. first ++ k ++ case.rest) (map-append (made_item line) (stores 0 (list_of command words)) (call (last_word command words)))
      ∙ ap (λ k. k ++ case.rest) (sym (append_assoc first front back)) ∙ ap (λ k. k ++ case.rest) (sym (append_assoc (first ++ front) one two))
      ∙ append_assoc (first ++ front ++ one) two case.rest

  abbrev entry_context : Context
  entry_context = context_of (whole_of translated) (bases_in_use translated first) line (after_list line (reverse first) command words) entry_in_15

  entry_stands : StandsInSection translated assembly entry_context (0 ∷ 0 ∷ 8 ∷ 0 ∷ []) 0 (address s.entry.base s.entry.displacement)
  entry_stands =
      laws.entry translated assembly (bases_in_use translated first) line (after_list line (reverse first) command words) (made_item line (stmt [] (codes "BALR") (codes "14,15")) ∷ case.rest) 0
      (address s.entry.base s.entry.displacement) case.accepts
      (entry_items ∙ ap (λ k. k ++ (made_item line entry_in_15 ∷ made_item line (stmt [] (codes "BALR") (codes "14,15")) ∷ case.rest)) (sym (reverse-reverse before_entry) ∙ ap (λ k. reverse k) entry_turned))
      case.statement.entry

  -- ---- the first instruction's offset
  offset_even : case.code.at % 2 ≡ 0
  offset_even =
      let whole = whole_of translated in
      let bases = bases_in_use translated first in
      let own = load_of (block_of command words) in
      let all : AreResolvedLines whole bases (reverse first) case.code.at (made_item line own ∷ tail_of line command words) case.code.code =
      subst (λ k. AreResolvedLines whole bases (reverse first) case.code.at k case.code.code) (call_begins line command words) case.code.resolved in
      let at = first_offset whole bases (reverse first) case.code.at line own (first_of whole bases (reverse first) case.code.at (made_item line own) (tail_of line command words) case.code.code all) in
      let place = offset_is own op.La (state_after (reverse first)) (la_role (codes "0," ++ block_of command words)) in
      ap (λ n. n % 2) (sym at ∙ place) ∙ even (next_in (state_after (reverse first)))
    where
      even : (n : ℕ) → align 2 n % 2 ≡ 0
      even n = omega arith

  offset_small : case.code.at ≤ 65536
  unfolding made_code
  offset_small =
      code_within assembly.section case.code.front case.code.back case.code.at _ _ (laws.texts translated assembly case.accepts) (case.code.stand ∙ ap (λ k. case.code.front ++ code_lines case.code.at k ++ case.code.back) case.made)

  -- ---- a machine that is about to perform the instructions
  module _ (storage loaded : Storage) (program : Loaded) (sections : Sections) (m : Machine) (fit : IsFit assembly.section.image) (done : IsLoaded storage assembly.section.image program loaded)
      (ready : IsReady loaded program.at sections (record { source = translated; first = first; line = line; command = command; words = words }) case.code.at s m) where
    abbrev there : IsControl sections translated program.at
    there = ready.control

    block_base : HasBase sections m.regs (bases_in_use translated first) s.block
    block_base = ready.bases.0

    list_base : HasBase sections m.regs (bases_in_use translated first) s.list
    list_base = ready.bases.1.1.0

    entry_base : HasBase sections m.regs (bases_in_use translated first) s.entry
    entry_base = ready.bases.1.1.1.0

    small : (b d : ℕ) → address_reached m.regs (record { base = b; displacement = d }) < 2 ^ 24
    small b d = omega arith

    code_stands : AreAt m.storage m.next (made_code s)
    code_stands =
        let at = address_after program.at case.code.at in
        let all = laws.code translated assembly first (lines line (call_statements command words)) storage loaded program case.accepts fit done case.code in
        let kept = subst (λ n. AreKept loaded m.storage n (code_length (made_code s))) ready.next ready.kept.0.0 in
        subst (λ n. AreAt m.storage n (made_code s)) (sym ready.next)
        (code_kept laws.spans loaded m.storage at (made_code s) (omega arith) kept (subst (AreAt loaded at) case.made all))

    stands : StandsInStorage m s
    stands =
        let bytes = same_bytes (whole_of translated) (bases_in_use translated first) line (reverse first) command words s case.statement in
        let block = literal_kept laws translated assembly (context_of (whole_of translated) (bases_in_use translated first) line (reverse first) (load_of (block_of command words)))
        (block_bytes command words) 0 (address s.block.base s.block.displacement) sections m.regs storage loaded program block_stands case.accepts fit done there block_base in
        let word = literal_kept laws translated assembly entry_context (0 ∷ 0 ∷ 8 ∷ 0 ∷ []) 0 (address s.entry.base s.entry.displacement) sections m.regs storage loaded program entry_stands case.accepts fit done there entry_base in
        record {
          instructions = code_stands;
          block = span_kept laws.spans loaded m.storage (address_reached m.regs s.block) (length (statement_bytes s)) (statement_bytes s) (small s.block.base s.block.displacement) ready.kept.1.0.0
              (subst (λ k. span loaded (address_reached m.regs s.block) (length k) ≡ Some k) (sym bytes) block);
          entry = word_kept laws.spans loaded m.storage (address_reached m.regs s.entry) (small s.entry.base s.entry.displacement) ready.kept.1.1.0.0 word;
        }

    -- DFHEIPL's place
    list_context : Context
    list_context = context_of (whole_of translated) (bases_in_use translated first) line (after_mark line (reverse first) command words) list_of_1

    knows : HasSomeList (whole_of translated).find
    unfolding list_context
    knows = laws.placed list_context 0 (address s.list.base s.list.displacement) case.statement.list list_base.0

    list_reached : address_reached m.regs s.list ≡ address_after (sections.place knows.section knows.offset) 0
    unfolding list_context
    list_reached =
        lies_at list_context knows.section knows.offset 0 (address s.list.base s.list.displacement) sections m.regs
        ((laws.list list_context knows.section knows.offset knows.is).indexed 0 (address s.list.base s.list.displacement) case.statement.list).1 list_base

    counts : (length (list_of command words) ≡ length (words_of_list s)) × (length (words_of_list s) ≤ 18)
    counts = same_words laws.accepts (whole_of translated) (bases_in_use translated first) line (reverse first) command case.cics case.named words s case.accepted case.statement

    words_reached : HaveWords m.regs (address_reached m.regs s.list) 0 (words_of_list s)
    unfolding list_context
    words_reached =
        subst (λ n. HaveWords m.regs n 0 (words_of_list s)) (sym list_reached)
        (have_words laws.words sections m.regs (whole_of translated) (bases_in_use translated first) line (reverse first) 0 (list_of command words) (words_of_list s) knows.section knows.offset knows.is
        (let same = counts.0 in let most = counts.1 in omega (arith, same, most)) case.statement.arguments ready.bases.1.1.1.1)

    last_context : Context
    last_context = context_of (whole_of translated) (bases_in_use translated first) line (after_stores line (reverse first) command words) (mark_of (last_word command words))

    last_reached : address_reached m.regs s.last ≡ address_after (address_reached m.regs s.list) (4 * length s.arguments)
    unfolding last_context list_context
    last_reached =
        let k = last_word command words in
        let same = counts.0 in
        let most = counts.1 in
        let here : k ≡ length s.arguments = omega (arith, same) in
        let lies = (laws.words last_context knows.section knows.offset k (omega (arith, here, most)) knows.is).plain (address s.last.base s.last.displacement) case.statement.last in
        lies_at last_context knows.section knows.offset (4 * k) (address s.last.base s.last.displacement) sections m.regs lies ready.bases.1.0
        ∙ ap (λ n. address_after (sections.place knows.section knows.offset) (4 * n)) here ∙ again (sections.place knows.section knows.offset) (length s.arguments)
        ∙ ap (λ n. address_after n (4 * length s.arguments)) (sym list_reached)
      where
        again : (p n : ℕ) → address_after p (4 * n) ≡ address_after (address_after p 0) (4 * n)
        again p n = omega arith

    addressed : IsListAddressed m s
    addressed =
        record {
          block = block_base.0;
          words = words_reached;
          last = (ready.bases.1.0.0, last_reached);
          list = list_base.0;
          entry = entry_base.0;
          other = ready.other;
        }

    clear : IsClear m s
    clear =
        let placed = is_placed storage (length assembly.section.image.text) program.at done.place in
        let even = placed.even in
        let low = placed.low in
        let high = placed.high in
        let offset = offset_even in
        let near = offset_small in
        let most = counts.1 in
        let many = (laws.counted s).0 in
        record {
          even = rw (ready.next) (begins_even program.at case.code.at even offset);
          outside = λ k less e. away program.at case.code.at k low high near (omega (arith, less, many, most)) (sym (ap (λ n. address_after n (4 * k)) ready.next) ∙ e);
          there = ready.there;
          room = omega (arith, most);
          code = ready.kept.0.1;
          block = ready.kept.1.0.1;
          entry = ready.kept.1.1.0.1;
        }
      where
        begins_even : (p at : ℕ) → p % 16 ≡ 0 → at % 2 ≡ 0 → address_after p at % 2 ≡ 0
        begins_even p at e f = omega (arith, e, f)

        away : (p at k : ℕ) → 65536 ≤ p → p ≤ 2097152 → at ≤ 65536 → k ≤ 40 → address_after (address_after p at) (4 * k) ≡ entry → ⊥
        away p at k low high near few e = omega (arith, low, high, near, few, e)

    arrives_so : (after : Machine) × Arrives m s after
    arrives_so =
        laws.reaches m s ready.machine
        (legal_so laws.accepts (whole_of translated) (bases_in_use translated first) line (reverse first) command case.cics case.named words s case.accepted case.statement)
        stands addressed clear

-- ---- the arguments
after_two : (line : ℕ) (one other : Stmt) (rest : List Stmt) (before : List Item)
    → reverse (lines line rest) ++ (made_item line other ∷ made_item line one ∷ before) ≡ reverse (lines line (one ∷ other ∷ rest)) ++ before
after_two line one other rest before =
    sym (ap (λ k. k ++ before) (reverse-append (made_item line one ∷ made_item line other ∷ []) (lines line rest))
    ∙ append_assoc (reverse (lines line rest)) (made_item line other ∷ made_item line one ∷ []) before)

each_addressed : OperandsAddress → (sections : Sections) (regs : List ℕ) (whole : Whole) (bases : Bases) (line : ℕ) (before : List Item) (k : ℕ) (list : List (List ℕ)) (arguments : List Argument)
    → AreArguments whole bases line before k list arguments → (j : ℕ) (text : List ℕ) (a : Argument) → slice_get list j ≡ Some text → slice_get arguments j ≡ Some a
    → IsAddressedBy sections regs (context_of whole bases line (reverse (lines line (stores k (take j list))) ++ before) (load_of text)) text a.index (address a.base a.displacement)
unfolding AreArguments
each_addressed addresses sections regs whole bases line before k [] arguments are j text a e f = absurd (cc)
each_addressed addresses sections regs whole bases line before k (t ∷ list) [] are j text a e f = absurd are
each_addressed addresses sections regs whole bases line before k (t ∷ list) (b ∷ arguments) are zero text a e f =
    let one : t ≡ text = cc in
    let other : b ≡ a = cc in
    subst (λ x. IsAddressedBy sections regs (context_of whole bases line before (load_of text)) text x.index (address x.base x.displacement)) other
    (subst (λ x. IsAddressedBy sections regs (context_of whole bases line before (load_of x)) x b.index (address b.base b.displacement)) one
    (addresses sections regs (context_of whole bases line before (load_of t)) t b.index (address b.base b.displacement) are.0))
each_addressed addresses sections regs whole bases line before k (t ∷ list) (b ∷ arguments) are (suc j) text a e f =
    subst (λ l. IsAddressedBy sections regs (context_of whole bases line l (load_of text)) text a.index (address a.base a.displacement))
    (after_two line (load_of t) (store_of k) (stores (k + 1) (take j list)) before)
    (each_addressed addresses sections regs whole bases line (made_item line (store_of k) ∷ made_item line (load_of t) ∷ before) (k + 1) list arguments are.2 j text a e f)

-- ---- the public relations
is_resolved : (site : Site) (before : List Item) (at : ℕ) (s : Stmt) (i : Instruction) → IsResolvedLine (whole_of site.source) (bases_of site) before at (made_item site.line s) i
    → IsResolved site before at s i
unfolding made_item
is_resolved site before at s i r =
    let same : r.statement ≡ s = (let found : Some s ≡ Some r.statement = r.begins in cc) in (
      ap (λ k. (place_in k (state_after before)).offset) (sym same) ∙ r.place,
      ap (λ k. option_map (λ o. instruction_or_fault o (context_in site before k) k.operand) (operation_named k.operation)) (sym same)
          ∙ ap (option_map (λ o. instruction_or_fault o (context_in site before r.statement) r.statement.operand)) r.named ∙ ap Some r.resolves,
    )

are_resolved : (site : Site) (before : List Item) (at : ℕ) (ss : List Stmt) (code : List Instruction)
    → AreResolvedLines (whole_of site.source) (bases_of site) before at (lines site.line ss) code → AreResolved site before at ss code
unfolding AreResolved AreResolvedLines
are_resolved site before at [] [] r = tt
are_resolved site before at [] (i ∷ code) r = absurd r
are_resolved site before at (s ∷ ss) [] r = absurd r
are_resolved site before at (s ∷ ss) (i ∷ code) r =
    (is_resolved site before at s i r.0, are_resolved site (made_item site.line s ∷ before) (at + length_of i.op) ss code r.1)

-- ---- all of it
-- the call in the code
call_code : (source : Source) (assembly : AssemblyParts) (line : ℕ) (first : List Item) (command : Command) (words : List Word) → LoadsPointers source assembly line first command words
    → StandInCode source first (lines line (call_statements command words)) assembly.section.resolved
call_code source assembly line first command words all =
    let at = all.code.at in
    let later = code_lines (at + code_length all.calls) all.loads in
    record {
      at = at;
      code = all.calls;
      resolved = all.here;
      front = all.code.front;
      back = later ++ all.code.back;
      stand =
          all.code.stand ∙ ap (λ k. all.code.front ++ k ++ all.code.back) (ap (code_lines at) all.split ∙ lines_joined at all.calls all.loads)
          ∙ ap (λ k. k ++ all.code.back) (sym (append_assoc all.code.front (code_lines at all.calls) later))
          ∙ append_assoc (all.code.front ++ code_lines at all.calls) later all.code.back;
    }

-- the lines before the call, it, the loads, and the lines that follow
parts_of : (item : Item) (exec : Stmt) (items : List Item) (made : IsMade item exec items)
    → items ≡ (made.before ++ lines item.line (label exec.name))
    ++ (lines item.line (call_statements made.command (words_after exec made.named)) ++ lines item.line (pointer_loads made.command (words_after exec made.named))) ++ made.after
parts_of item exec items made =
    let words = words_after exec made.named in
    let one = lines item.line (label exec.name) in
    let two = lines item.line (call_statements made.command words) in
    let loads = lines item.line (pointer_loads made.command words) in
    made_items item exec items made ∙ ap (λ k. made.before ++ k ++ made.after) (made_split item.line exec.name made.command words)
    ∙ ap (λ k. k ++ made.after) (ap (λ k. made.before ++ k) (append_assoc one two loads) ∙ sym (append_assoc made.before one (two ++ loads)))

pub commands_arrive : Laws → ReturnLaws → CallsAreMade → CommandsArrive
unfolding call_code
commands_arrive laws returns make source translated assembly item exec translates accepts contained statement begins =
    let made = stand_together source translated item exec translates contained statement begins in
    let site = site_of translated made in
    let line = item.line in
    let first = site.first in
    let command = made.command in
    let words = site.words in
    let whole = whole_of translated in
    let bases = bases_in_use translated first in
    let two = lines line (call_statements command words) in
    let loads = lines line (pointer_loads command words) in
    let parts = parts_of item exec translated.items made in
    let all = loads_pointers make translated assembly line first made.after command words accepts parts in
    let code = call_code translated assembly line first command words all in
    let s = all.called.statement in
    let split : translated.items ≡ first ++ two ++ (loads ++ made.after) =
    parts ∙ ap (λ k. k ++ made.after) (sym (append_assoc first two loads)) ∙ append_assoc (first ++ two) loads made.after in
    let case : Case translated assembly line first command words s = record {
      accepts = accepts;
      rest = loads ++ made.after;
      items = split;
      cics = take 1 (words_of_operand exec.operand);
      named = take made.named (drop 1 (words_of_operand exec.operand));
      accepted = no_fault_in item exec translated.items made;
      code = code;
      statement = all.called.is;
      made = all.called.made;
    } in
    let counted : code_length all.calls ≡ code_length (made_code s) = ap code_length all.called.made in
    let called = all.called.is in
    record {
      made = made;
      call = record {
        at = all.code.at;
        statement = s;
        is = record {
          command = called.for_command;
          first = called.first;
          second = called.second;
          conditions = called.conditions;
          resolved = are_resolved site (reverse first) all.code.at (statements_of_call site) (made_code s) (subst (AreResolvedLines whole bases (reverse first) all.code.at two) all.called.made all.here);
        };
        loads = all.loads;
        loaded = are_resolved site (lines_after site (statements_of_call site)) (all.code.at + code_length (made_code s)) (pointer_loads command words) all.loads
            (subst (λ n. AreResolvedLines whole bases (lines_after site (statements_of_call site)) (all.code.at + n) loads all.loads) counted all.loaded);
        front = all.code.front;
        back = all.code.back;
        stand = all.code.stand ∙ ap (λ k. all.code.front ++ code_lines all.code.at k ++ all.code.back) (all.split ∙ ap (λ k. k ++ all.loads) all.called.made);
        named = named_so translated exec.name line made.before (loads ++ made.after) command words assembly.section.resolved split (accepted translated assembly accepts).first code;
        places = λ sections regs. each_addressed laws.addresses sections regs whole bases line (reverse first) 0 (list_of command words) (words_of_list s) called.arguments;
        arrives = λ storage loaded program sections m fit done ready.
            arrives_so laws translated assembly line first command words s case storage loaded program sections m fit done ready;
        returns = λ earlier register pointer cut. comes_back returns translated assembly line first command words accepts all earlier register pointer cut counted;
      };
    }
