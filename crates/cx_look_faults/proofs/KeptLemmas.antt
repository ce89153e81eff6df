-- What a source is refused for is on one of its first 10,001 lines.
use Rattle.std.proofs.Common.{◌≡◌, ◌≤◌, ℕ, zero, suc, ◌+◌, ◌-◌, ◌==◌, Bool, true, false, cond, Option, Some, None, List, [], ◌∷◌, ◌++◌, length, map, take, drop, reverse, slice_get, refl, sym, ◌∙◌, ap, subst, arith}
use Rattle.std.specs.Prelude.{◌||◌, IfSome, codes, filter, is_some, nat_lt, option_and_then, option_map}
use Rattle.std.specs.List.{AllByRecursion, cons_option, filter_map, find, list_any, position}
use Rattle.std.specs.Option.{option_map_or, option_or, option_to_list}
use Rattle.std.specs.Result.{result_err}
use Rattle.std.specs.Str.{bytes_eq}
use Rattle.std.proofs.lemmas.Bool.Decides.{nat_tests}
use Rattle.std.proofs.lemmas.Grind.{reverse_onto}
use Rattle.cx_base.specs.declared.commands.Command.{Command}
use Rattle.cx_asm.specs.Assembly.{end_line, first_found, last_line, later_faults, second_faults_of}
use Rattle.cx_asm_build.specs.Kinds.{of_assembly, of_source, of_translation}
use Rattle.cx_asm_build.specs.Prepared.{prepared_of}
use Rattle.cx_asm_build.specs.declared.faults.PrepareFault.{PrepareFault}
use Rattle.cx_asm_build.specs.declared.faults.SourceKind.{SourceKind}
use Rattle.cx_asm_expressions.specs.Faults.{lower_of}
use Rattle.cx_asm_expressions.specs.declared.faults.FaultKind.{FaultKind}
use Rattle.cx_asm_expressions.specs.declared.faults.FaultKind.TheVariants as reason
use Rattle.cx_asm_pass1.specs.AllFaults as places
use Rattle.cx_asm_pass1.specs.PassState.{line_fault}
use Rattle.cx_asm_pass1.specs.declared.place.LineFault.{LineFault}
use Rattle.cx_asm_pass1.specs.declared.place.Place.{Place}
use Rattle.cx_asm_pass2.specs.SecondFaults.{second_faults_after}
use Rattle.cx_asm_pass2.specs.Statements.{PlacedItem, PlacedStatement, placed_latest_first, placed_of, placed_statement, stated_in, statements_of}
use Rattle.cx_asm_pass2.specs.Whole.{Whole, whole_of}
use Rattle.cx_source.specs.Faults.{source_fault as line_fault_of, goes_on, line_faults}
use Rattle.cx_source.specs.Facts.AllFaults.{first_fault, first_of_faults}
use Rattle.cx_source.specs.Facts.Mended.{texts_whole}
use Rattle.cx_source.specs.Lines.{text_of}
use Rattle.cx_source.specs.Mended.{source_read}
use Rattle.cx_source.specs.Statements.{is_continued, is_last, items_from, up_to_end}
use Rattle.cx_source.specs.declared.source.Item.{Item}
use Rattle.cx_source.specs.declared.source.Source.{Source}
use Rattle.cx_source.specs.declared.source.SourceFault.{SourceFault}
use Rattle.cx_source.specs.declared.source.SourceFault.TheVariants as line
use Rattle.cx_source.specs.declared.source.Stmt.{Stmt}
use Rattle.cx_translate.specs.Expansion.{made_item, made_of, stmt}
use Rattle.cx_translate.specs.Facts.Found.{eib_section, fault_in_stmt, fault_of_command, made_lines, storage_section}
use Rattle.cx_translate.specs.Refusals.{command_in, fault_in as fault_in_words, refusal_of}
use Rattle.cx_translate.specs.Sections.{at_first, bases, begins_exec, begins_section, begins_storage, insert_items, is_end, lines, name_at, place_after, put_after, put_before, storage_fields, with_bases, with_eib, with_storage}
use Rattle.cx_translate.specs.Translation as translation
use Rattle.cx_translate.specs.Words.{words_of}
use Rattle.cx_translate.specs.declared.faults.TransFault.{TransFault}
use Rattle.cx_translate.specs.declared.faults.TransFault.TheVariants as trans
use Rattle.cx_translate.specs.declared.words.Word.{Word}
use Rattle.cx_look_faults.proofs.FirstLemmas.{has_shown, is_among, stages_reported}
use Rattle.cx_look_faults.specs.Faults.{faults_of, faulty_line, faulty_lines, follows, instead, is_due, lines_by_stages, lost_from, of_pass, unknown_after, without_adrift, without_following}
use Rattle.cx_look_faults.specs.Kept.{is_kept, kept_faults}
use Rattle.cx_look_faults.specs.Laws.First.{IsAmong, prepare_fault_of as fault_of_line}
use Rattle.cx_look_faults.specs.declared.faults.FaultyLine.{FaultyLine}

-- ---- all of a list
module _ {X : Type 0} (P : X → Type 0) where
  all_take : (n : ℕ) (xs : List X) → AllByRecursion P xs → AllByRecursion P (take n xs)
  all_take zero xs h = tt
  all_take (suc n) [] h = tt
  all_take (suc n) (x ∷ xs) h = (h.0, all_take n xs h.1)

  all_drop : (n : ℕ) (xs : List X) → AllByRecursion P xs → AllByRecursion P (drop n xs)
  all_drop zero xs h = h
  all_drop (suc n) [] h = tt
  all_drop (suc n) (x ∷ xs) h = all_drop n xs h.1

  all_both : (xs ys : List X) → AllByRecursion P xs → AllByRecursion P ys → AllByRecursion P (xs ++ ys)
  all_both [] ys h k = k
  all_both (x ∷ xs) ys h k = (h.0, all_both xs ys h.1 k)

  all_reverse : (xs : List X) → AllByRecursion P xs → AllByRecursion P (reverse xs)
  all_reverse [] h = tt
  all_reverse (x ∷ xs) h = subst (AllByRecursion P) (sym (reverse_onto xs x [])) (all_both (reverse xs) (x ∷ []) (all_reverse xs h.1) (h.0, tt))

-- ---- lines
abbrev IsLowItem : Item → Type 0
IsLowItem item = item.line ≤ 10001

abbrev AreLow : List Item → Type 0
AreLow items = AllByRecursion IsLowItem items

made_low : (number : ℕ) (made : List Stmt) → number ≤ 10001 → AreLow (lines number made)
unfolding made_item
made_low number [] h = tt
made_low number (s ∷ made) h = (h, made_low number made h)

at_low : (place : ℕ) (items : List Item) → AreLow items → option_map_or (λ item. item.line) (slice_get items place) 0 ≤ 10001
at_low place [] h = omega arith
at_low zero (x ∷ items) h = h.0
at_low (suc place) (x ∷ items) h = at_low place items h.1

inserted_low : (place at : ℕ) (made : List Stmt) (items : List Item) → AreLow items
    → AreLow (insert_items place (lines (option_map_or (λ item. item.line) (slice_get items at) 0) made) items)
inserted_low place at made items h =
    let number : ℕ = option_map_or (λ item. item.line) (slice_get items at) 0 in
    all_both IsLowItem (take place items ++ lines number made) (drop place items)
    (all_both IsLowItem (take place items) (lines number made) (all_take IsLowItem place items h) (made_low number made (at_low at items h))) (all_drop IsLowItem place items h)

first_low : (test : Item → Bool) (change : ℕ → List Item → List Item) (items otherwise : List Item) → ((place : ℕ) → AreLow (change place items)) → AreLow otherwise
    → AreLow (at_first test change items otherwise)
first_low test change items otherwise h k = go (position test items)
  where
    go : (place : Option ℕ) → AreLow (option_map_or (λ p. change p items) place otherwise)
    go None = k
    go (Some place) = h place

storage_low : (items : List Item) → AreLow items → AreLow (with_storage items)
unfolding with_storage
storage_low items h =
    first_low begins_storage (put_after storage_fields) items (at_first begins_section (put_before storage_section) items items) (λ place. inserted_low (place_after items place) place storage_fields items h)
    (first_low begins_section (put_before storage_section) items items (λ place. inserted_low place place storage_section items h) h)

bases_low : (items : List Item) → AreLow items → AreLow (with_bases items)
unfolding with_bases
bases_low items h =
    first_low begins_section (λ place all. put_after (bases (name_at place all)) place all) items items
    (λ place. inserted_low (place_after items place) place (bases (name_at place items)) items h) h

eib_low : (items : List Item) → AreLow items → AreLow (with_eib items)
unfolding with_eib
eib_low items h = first_low is_end (put_before eib_section) items items (λ place. inserted_low place place eib_section items h) h

stand_in_low : (number : ℕ) (s : Option Stmt) → number ≤ 10001 → AreLow (option_map_or (λ exec. lines number (stmt exec.name (codes "DS") (codes "0H") ∷ [])) s [])
stand_in_low number None h = tt
stand_in_low number (Some exec) h = made_low number (stmt exec.name (codes "DS") (codes "0H") ∷ []) h

expansion_low : (continues : Bool) (item : Item) → item.line ≤ 10001 → AreLow (translation.expansion continues item)
unfolding translation.expansion
expansion_low continues item h = go (translation.is_dropped continues item) (begins_exec item) item.stmt
  where
    go : (dropped begins : Bool) (s : Option Stmt) → AreLow (cond dropped [] (cond begins (made_lines item.line s) (item ∷ [])))
    go true begins s = tt
    go false true None = tt
    go false true (Some exec) = made_low item.line (made_of exec.name (words_of exec.operand)) h
    go false false s = (h, tt)

either_low : (b : Bool) (one other : List Item) → AreLow one → AreLow other → AreLow (cond b one other)
either_low true one other h k = h
either_low false one other h k = k

mended_low : (continues : Bool) (items : List Item) → AreLow items → AreLow (translation.mended_items continues items)
unfolding translation.mended_expansion
mended_low continues [] h = tt
mended_low continues (item ∷ rest) h =
    all_both IsLowItem _ _
    (either_low (is_some (translation.fault_at item)) _ _ (stand_in_low item.line item.stmt h.0) (expansion_low continues item h.0))
    (mended_low (translation.continues_exec continues item) rest h.1)

source_low : (read : Source) → AreLow read.items → AreLow (translation.mended_source read).items
unfolding translation.mended_source
source_low read h = go (list_any begins_exec read.items)
  where
    go : (b : Bool) → AreLow (cond b (record { items = with_eib (with_bases (with_storage (translation.mended_items false read.items))) }) read).items
    go true = eib_low _ (bases_low _ (storage_low _ (mended_low false read.items h)))
    go false = h

-- ---- the faults of the passes
abbrev FaultsLow : List LineFault → Type 0
FaultsLow faults = AllByRecursion (λ fault. fault.line ≤ 10001) faults

with_low : (number : ℕ) (fault : Option FaultKind) (faults : List LineFault) → number ≤ 10001 → FaultsLow faults → FaultsLow (places.with_fault number fault faults)
with_low number None faults h k = k
with_low number (Some kind) [] h k = (h, tt)
with_low number (Some kind) (f ∷ more) h k = go (number == f.line) (with_low number (Some kind) more h k.1)
  where
    go : (b : Bool) → FaultsLow (places.with_fault number (Some kind) more)
        → FaultsLow (cond b (line_fault f.line (lower_of f.kind kind) ∷ more) (f ∷ places.with_fault number (Some kind) more))
    go true m = k
    go false m = (k.0, m)

placed_low : (items : List Item) → AreLow items → FaultsLow (places.faults_after items)
placed_low [] h = tt
placed_low (item ∷ before) h = with_low item.line _ (places.faults_after before) h.0 (placed_low before h.1)

abbrev StatementsLow : List PlacedStatement → Type 0
StatementsLow statements = AllByRecursion (λ s. s.line ≤ 10001) statements

places_low : (items : List Item) → AreLow items → AllByRecursion (λ p. p.item.line ≤ 10001) (placed_latest_first items)
places_low [] h = tt
places_low (item ∷ before) h = (h.0, places_low before h.1)

stated_low : (placed : List PlacedItem) → AllByRecursion (λ p. p.item.line ≤ 10001) placed → StatementsLow (filter_map stated_in placed)
stated_low [] h = tt
stated_low (p ∷ placed) h = go p.item.stmt p.place (stated_low placed h.1)
  where
    go : (s : Option Stmt) (place : Option Place) → StatementsLow (filter_map stated_in placed)
        → StatementsLow (cons_option (option_and_then (λ one. option_map (placed_statement p.item.line one) place) s) (filter_map stated_in placed))
    go None place m = m
    go (Some s) None m = m
    go (Some s) (Some place) m = (h.0, m)

statements_low : (source : Source) → AreLow source.items → StatementsLow (statements_of source)
unfolding placed_of
statements_low source h =
    let latest = all_reverse IsLowItem source.items h in
    stated_low _ (all_reverse (λ (p : PlacedItem). p.item.line ≤ 10001) (placed_latest_first (reverse source.items)) (places_low (reverse source.items) latest))

second_low : (whole : Whole) (statements : List PlacedStatement) → StatementsLow statements → FaultsLow (second_faults_after whole statements)
second_low whole [] h = tt
second_low whole (s ∷ before) h = with_low s.line _ (second_faults_after whole before) h.0 (second_low whole before h.1)

found_low : (test : PlacedStatement → Bool) (statements : List PlacedStatement) (otherwise : ℕ) → StatementsLow statements → otherwise ≤ 10001
    → option_map_or (λ s. s.line) (find test statements) otherwise ≤ 10001
found_low test [] otherwise h k = k
found_low test (s ∷ statements) otherwise h k = go (test s) (found_low test statements otherwise h.1 k)
  where
    go : (b : Bool) → option_map_or (λ s. s.line) (find test statements) otherwise ≤ 10001
        → option_map_or (λ s. s.line) (cond b (Some s) (find test statements)) otherwise ≤ 10001
    go true m = h.0
    go false m = m

size_low : (b : Bool) (number : ℕ) → number ≤ 10001 → FaultsLow (cond b [] (line_fault number reason.TooLarge ∷ []))
size_low true number h = tt
size_low false number h = (h, tt)

one_low : (first later : List LineFault) → FaultsLow first → FaultsLow later → FaultsLow (first_found first later)
one_low [] later h k = k
one_low (f ∷ more) later h k = h

later_low : (source : Source) → AreLow source.items → FaultsLow (later_faults source)
unfolding second_faults_of
later_low source h =
    let statements = statements_low source h in
    let latest = all_reverse (λ (s : PlacedStatement). s.line ≤ 10001) (statements_of source) statements in
    one_low _ _ (second_low (whole_of source) (reverse (statements_of source)) latest)
    (size_low _ (end_line source) (found_low (λ (s : PlacedStatement). bytes_eq s.stmt.operation (codes "END")) (statements_of source) (last_line source) statements (at_low (length source.items - 1) source.items h)))

-- ---- faulty lines
abbrev LinesLow : List FaultyLine → Type 0
LinesLow faults = AllByRecursion (λ fault. fault.line ≤ 10001) faults

passes_low : (faults : List LineFault) → FaultsLow faults → LinesLow (faulty_lines of_pass faults)
unfolding of_assembly
passes_low [] h = tt
passes_low (f ∷ faults) h = go f.kind (passes_low faults h.1)
  where
    go : (kind : FaultKind) → LinesLow (faulty_lines of_pass faults) → LinesLow (cons_option (faulty_line (of_pass (line_fault f.line kind))) (faulty_lines of_pass faults))
    go reason.UnknownOperation m = (h.0, m)
    go reason.UndefinedSymbol m = (h.0, m)
    go reason.DuplicateSymbol m = (h.0, m)
    go reason.NoAddressability m = (h.0, m)
    go reason.BadOperand m = (h.0, m)
    go reason.ValueOutOfRange m = (h.0, m)
    go reason.NotRelocatable m = (h.0, m)
    go reason.TooLarge m = (h.0, m)

without_low : (b : Bool) (one : FaultyLine) (more : List FaultyLine) → one.line ≤ 10001 → LinesLow more → LinesLow (cond b [] (one ∷ []) ++ more)
without_low true one more h k = k
without_low false one more h k = (h, k)

adrift_low : (items : List Item) (met : Bool) (unknown : Option ℕ) (faults : List FaultyLine) → LinesLow faults → LinesLow (without_adrift items met unknown faults)
adrift_low items met unknown [] h = tt
adrift_low items met unknown (one ∷ more) h = without_low (is_due items met unknown one) one _ h.0 (adrift_low items true (unknown_after unknown one) more h.1)

instead_low : (b : Bool) (one : FaultyLine) (kind : Option SourceKind) (more : List FaultyLine) → one.line ≤ 10001 → LinesLow more
    → LinesLow (cond b (instead one kind) (one ∷ []) ++ more)
instead_low true one None more h k = k
instead_low true one (Some kind) more h k = (h, k)
instead_low false one kind more h k = (h, k)

following_low : (has : Bool) (numbers : List ℕ) (beside : ℕ → Option SourceKind) (from : Option ℕ) (faults : List FaultyLine) → LinesLow faults
    → LinesLow (without_following has numbers beside from faults)
following_low has numbers beside from [] h = tt
following_low has numbers beside from (one ∷ more) h =
    instead_low (follows from one) one (beside one.line) _ h.0 (following_low has numbers beside (lost_from has numbers from one) more h.1)

-- of EXEC statements
abbrev IsLow : Option FaultyLine → Type 0
IsLow None = ⊥
IsLow (Some fault) = fault.line ≤ 10001

abbrev TransLow : Option TransFault → Type 0
TransLow None = Unit {0}
TransLow (Some fault) = IsLow (faulty_line (of_translation fault))

chain_low : (a b c d e : Bool) (n : ℕ) → n ≤ 10001
    → TransLow (cond a (Some (trans.UnknownOption n)) (cond b (Some (trans.BadArgument n)) (cond c (Some (trans.TooManyConditions n)) (cond d (Some (trans.Conflict n)) (cond e None (Some (trans.MissingOption n)))))))
unfolding of_translation
chain_low true b c d e n h = h
chain_low false true c d e n h = h
chain_low false false true d e n h = h
chain_low false false false true e n h = h
chain_low false false false false true n h = tt
chain_low false false false false false n h = h

words_low : (number : ℕ) (words : List Word) (found : Option (Command × ℕ)) → number ≤ 10001 → TransLow (fault_of_command number words found)
unfolding of_translation fault_in_words
words_low number words None h = h
words_low number words (Some found) h = chain_low _ _ _ _ _ number h

exec_low : (number : ℕ) (s : Option Stmt) → number ≤ 10001 → TransLow (fault_in_stmt number s)
unfolding refusal_of
exec_low number None h = tt
exec_low number (Some exec) h = words_low number (words_of exec.operand) (command_in (words_of exec.operand)) h

item_low : (item : Item) → item.line ≤ 10001 → TransLow (translation.fault_at item)
unfolding translation.fault_at
item_low item h = go (begins_exec item)
  where
    go : (b : Bool) → TransLow (cond b (fault_in_stmt item.line item.stmt) None)
    go true = exec_low item.line item.stmt h
    go false = tt

put_low : (one : Option FaultyLine) (more : List FaultyLine) → IsLow one → LinesLow more → LinesLow (cons_option one more)
put_low None more h k = absurd h
put_low (Some one) more h k = (h, k)

trans_low : (items : List Item) → AreLow items → LinesLow (faulty_lines of_translation (translation.statement_faults items))
trans_low [] h = tt
trans_low (item ∷ rest) h = go (translation.fault_at item) (item_low item h.0) (trans_low rest h.1)
  where
    go : (fault : Option TransFault) → TransLow fault → LinesLow (faulty_lines of_translation (translation.statement_faults rest))
        → LinesLow (faulty_lines of_translation (cons_option fault (translation.statement_faults rest)))
    go None t m = m
    go (Some fault) t m = put_low (faulty_line (of_translation fault)) _ t m

-- of the source's lines
abbrev SourceLow : Option SourceFault → Type 0
SourceLow None = Unit {0}
SourceLow (Some fault) = IsLow (faulty_line (of_source fault))

-- a line without a fault is one of the first 10,000
late : (n : ℕ) → nat_lt 10000 n ≡ false → n ≤ 10000
late n e = grind (arith, nat_tests)

neither : (a b : Bool) (one : SourceFault) (other : Option SourceFault) → cond (a || b) (Some one) other ≡ None → b ≡ false
neither true b one other e = absurd (cc)
neither false true one other e = absurd (cc)
neither false false one other e = refl

early : (continues : Bool) (n : ℕ) (text : List ℕ) → line_fault_of continues n text ≡ None → n ≤ 10000
unfolding line_fault_of
early continues n text e = late n (neither (nat_lt 80 (length text)) (nat_lt 10000 n) (line.TooLong n) _ e)

line_chain_low : (a b c d : Bool) (n : ℕ) → n ≤ 10001
    → SourceLow (cond a (Some (line.TooLong n)) (cond b (Some (line.BadCharacter n)) (cond c (Some (line.BadContinuation n)) (cond d None (Some (line.BadName n))))))
unfolding of_source
line_chain_low true b c d n h = h
line_chain_low false true c d n h = h
line_chain_low false false true d n h = h
line_chain_low false false false true n h = tt
line_chain_low false false false false n h = h

line_low : (continues : Bool) (n : ℕ) (text : List ℕ) → n ≤ 10001 → SourceLow (line_fault_of continues n text)
unfolding line_fault_of
line_low continues n text h = line_chain_low _ _ _ _ n h

lines_low : (continues : Bool) (n : ℕ) (all : List (List ℕ)) → n ≤ 10001 → SourceLow (first_fault continues n all)
unfolding of_source
lines_low continues n [] h = h
lines_low continues n (text ∷ more) h =
    go (line_fault_of continues n text) (is_last continues (text_of text)) refl (line_low continues n text h)
    (λ small. lines_low (is_continued continues (text_of text)) (n + 1) more (omega (arith, small)))
  where
    go : (fault : Option SourceFault) (last : Bool) → line_fault_of continues n text ≡ fault → SourceLow fault
        → (n ≤ 10000 → SourceLow (first_fault (is_continued continues (text_of text)) (n + 1) more))
        → SourceLow (option_or fault (cond last None (first_fault (is_continued continues (text_of text)) (n + 1) more)))
    go (Some fault) last e low m = low
    go None true e low m = tt
    go None false e low m = m (early continues n text e)

-- where none of them has a fault they are few
never : (fault : Option SourceFault) (rest : List SourceFault) → option_to_list fault ++ rest ≡ [] → (fault ≡ None) × (rest ≡ [])
never None rest e = (refl, e)
never (Some fault) rest e = absurd (cc)

few : (continues : Bool) (n : ℕ) (all : List (List ℕ)) → line_faults continues n all ≡ [] → n + length (up_to_end continues (map text_of all)) ≤ 10001
few continues n [] e = absurd (cc)
few continues n (text ∷ more) e =
    let sound = (never (line_fault_of continues n text) _ e).0 in
    let rest : cond (is_last continues (text_of text)) [] (line_faults (is_continued continues (text_of text)) (n + 1) more) ≡ [] =
    ap (λ fault. option_to_list fault ++ cond (is_last (goes_on continues fault) (text_of text)) [] (line_faults (is_continued (goes_on continues fault) (text_of text)) (n + 1) more)) (sym sound) ∙ e in
    go (is_last continues (text_of text)) rest (few (is_continued continues (text_of text)) (n + 1) more)
  where
    go : (last : Bool) → cond last [] (line_faults (is_continued continues (text_of text)) (n + 1) more) ≡ []
        → (line_faults (is_continued continues (text_of text)) (n + 1) more ≡ [] → n + 1 + length (up_to_end (is_continued continues (text_of text)) (map text_of more)) ≤ 10001)
        → n + suc (length (cond last [] (up_to_end (is_continued continues (text_of text)) (map text_of more)))) ≤ 10001
    go true r m = omega (arith, early continues n text (never (line_fault_of continues n text) _ e).0)
    go false r m = omega (arith, m r)

numbered_low : (continues : Bool) (n : ℕ) (texts : List (List ℕ)) → n + length texts ≤ 10001 → AreLow (items_from continues n texts)
numbered_low continues n [] h = tt
numbered_low continues n (text ∷ texts) h = (omega (arith, h), numbered_low (is_continued continues text) (n + 1) texts (omega (arith, h)))

read_low : (all : List (List ℕ)) → line_faults false 1 all ≡ [] → AreLow (source_read all).items
unfolding source_read
read_low all e =
    subst (λ texts. AreLow (items_from false 1 texts)) (sym (texts_whole false 1 all e)) (numbered_low false 1 (up_to_end false (map text_of all)) (few false 1 all e))

-- ---- the first of all
abbrev FirstLow : List FaultyLine → Type 0
FirstLow [] = Unit {0}
FirstLow (fault ∷ more) = fault.line ≤ 10001

head_low : (faults : List FaultyLine) → LinesLow faults → FirstLow faults
head_low [] h = tt
head_low (f ∷ more) h = h.0

either_first : (unread : List SourceFault) (middle last : List FaultyLine) → SourceLow (slice_get unread 0) → (unread ≡ [] → LinesLow middle × LinesLow last)
    → FirstLow ((faulty_lines of_source unread ++ middle) ++ last)
either_first [] middle last low m =
    let both = m refl in head_low (middle ++ last) (all_both (λ (f : FaultyLine). f.line ≤ 10001) middle last both.0 both.1)
either_first (f ∷ more) middle last low m = go (faulty_line (of_source f)) low
  where
    go : (one : Option FaultyLine) → IsLow one → FirstLow ((cons_option one (faulty_lines of_source more) ++ middle) ++ last)
    go None l = absurd l
    go (Some one) l = l

stages_low : (all : List (List ℕ)) → FirstLow (lines_by_stages all)
stages_low all =
    either_first (line_faults false 1 all) _ _ (subst SourceLow (sym (first_of_faults false 1 all)) (lines_low false 1 all (omega arith)))
    (λ none.
    let read = read_low all none in
    let made = translation.mended_source (source_read all) in
    let low = source_low (source_read all) read in
    let latest = all_reverse IsLowItem made.items low in (
      all_both (λ (f : FaultyLine). f.line ≤ 10001) _ _ (trans_low (source_read all).items read)
          (adrift_low made.items false None _ (passes_low _ (placed_low (reverse made.items) latest))),
      following_low _ _ _ _ _ (passes_low _ (later_low made low)),
    ))

-- ---- it is kept
within : (n : ℕ) → n ≤ 10001 → nat_lt n 10002 ≡ true
within n h = grind (arith, nat_tests)

among_kept : (first : Option FaultyLine) (faults : List FaultyLine) → IfSome first (λ one. one.line ≤ 10001)
    → IsAmong (option_map fault_of_line first) faults → IsAmong (option_map fault_of_line first) (filter is_kept faults)
among_kept None faults low h = ap (filter is_kept) h
among_kept (Some one) faults low h = has_shown is_kept one.line one.kind faults (within one.line low) h

low_first : (faults : List FaultyLine) → FirstLow faults → IfSome (slice_get faults 0) (λ one. one.line ≤ 10001)
low_first [] low = tt
low_first (one ∷ more) low = low

pub is_among_kept : (listing disassembly : Bool) (all : List (List ℕ)) → IsAmong (result_err (prepared_of listing disassembly all)) (kept_faults all)
is_among_kept listing disassembly all =
    let told = stages_reported listing disassembly all in
    let there = subst (λ (fault : Option PrepareFault). IsAmong fault (faults_of all)) told (is_among listing disassembly all) in
    subst (λ (fault : Option PrepareFault). IsAmong fault (kept_faults all)) (sym told)
    (among_kept (slice_get (lines_by_stages all) 0) (faults_of all) (low_first (lines_by_stages all) (stages_low all)) there)
