-- What a source is refused for is the fault of one of its faulty lines.
use Rattle.std.proofs.Common.{arith, ◌≡◌, ◌≢◌, inl, inr, ℕ, Bool, true, false, cond, Option, Some, None, List, [], ◌∷◌, ◌++◌, append-nil, map, slice_get, Result, Ok, Err, refl, sym, ◌∙◌, ap, ap₂, subst}
use Rattle.std.specs.Prelude.{◌&&◌, ◌||◌, ◌==◌, IfSome, filter, is_some, fold, not, option_map}
use Rattle.std.specs.BTreeMap.{insert_entry, is_at}
use Rattle.std.specs.List.{cons_option, list_any}
use Rattle.std.specs.Map.{lookup}
use Rattle.std.specs.Option.{option_map_or}
use Rattle.std.specs.Ordering.{is_eq, match_ordering, nat_cmp}
use Rattle.std.specs.Result.{result_err}
use Rattle.std.specs.declared.cmp.Ordering.{Ordering}
use Rattle.std.specs.declared.cmp.Ordering.TheVariants.{Less, Equal, Greater}
use Rattle.cx_asm.specs.Assembly.{AssemblyParts, assembly_faults, assembly_of, fault_at, first_found, later_faults}
use Rattle.cx_asm.specs.Facts.AllFaults as assembly
use Rattle.cx_asm.specs.declared.faults.AsmFault.{AsmFault}
use Rattle.cx_asm_pass1.specs.AllFaults.{place_faults}
use Rattle.cx_asm_pass1.specs.declared.place.LineFault.{LineFault}
use Rattle.cx_source.specs.Facts.Mended.{source_whole}
use Rattle.cx_source.specs.Faults.{line_faults, source_from, source_in}
use Rattle.cx_source.specs.Lines.{text_of}
use Rattle.cx_source.specs.Mended.{source_read}
use Rattle.cx_source.specs.Statements.{up_to_end}
use Rattle.cx_source.specs.declared.source.Item.{Item}
use Rattle.cx_source.specs.declared.source.Source.{Source}
use Rattle.cx_source.specs.declared.source.SourceFault.{SourceFault}
use Rattle.cx_translate.specs.Facts.Mended.{translation_whole}
use Rattle.cx_translate.specs.Sections.{begins_section}
use Rattle.cx_translate.specs.Translation as translation
use Rattle.cx_translate.specs.declared.faults.TransFault.{TransFault}
use Rattle.cx_asm_build.specs.Facts.Faults.{prepared_not_memory}
use Rattle.cx_asm_build.specs.Kinds.{of_assembly, of_source, of_translation}
use Rattle.cx_asm_build.specs.Prepared as prepared
use Rattle.cx_asm_build.specs.declared.faults.PrepareFault.{PrepareFault}
use Rattle.cx_asm_build.specs.declared.faults.PrepareFault.TheVariants.{At, Memory}
use Rattle.cx_asm_build.specs.declared.faults.SourceKind.{SourceKind}
use Rattle.cx_asm_build.specs.declared.faults.SourceKind.TheVariants.{BadContinuation, BadOperand, NoAddressability}
use Rattle.cx_asm_build.specs.declared.program.Prepared.{Prepared}
use Rattle.cx_look_faults.specs.Faults.{base_lines, continuations, faults_of, faulty, faulty_line, faulty_lines, follows, instead, is_due, is_same, is_shown, kind_at, kinds_beside, kinds_of, lines_by_stages, lost_from, of_pass, put_line, stage_lines, unknown_after, without_adrift, without_following}
use Rattle.cx_look_faults.specs.Laws.First.{Has, IsAmong, prepare_fault_of}
use Rattle.cx_look_faults.specs.declared.faults.FaultyLine.{FaultyLine}

-- ---- by number
abbrev Table : Type 0
Table = List (ℕ × SourceKind)

abbrev listed : Table → List FaultyLine
listed table = map (λ entry. faulty entry.0 entry.1) table

-- a fault stays where a line that the table hasn't is put
put_new : (order : Ordering) (fault : PrepareFault) (line : ℕ) (kind : SourceKind) (e : ℕ × SourceKind) (es more : Table) → is_eq order ≡ false
    → (Has fault (listed es) → Has fault (listed more)) → Has fault (listed (e ∷ es))
    → Has fault (listed (match_ordering order ((line, kind) ∷ e ∷ es) ((e.0, kind) ∷ es) (e ∷ more)))
put_new Less fault line kind e es more apart h has = inr has
put_new Equal fault line kind e es more apart h has = absurd (cc)
put_new Greater fault line kind e es more apart h (inl it) = inl it
put_new Greater fault line kind e es more apart h (inr it) = inr (h it)

absent : (here : Bool) (kind : SourceKind) (rest : Option SourceKind) → is_some (cond here (Some kind) rest) ≡ false → (here ≡ false) × (is_some rest ≡ false)
absent true kind rest e = absurd (cc)
absent false kind rest e = (refl, e)

inserted : (fault : PrepareFault) (line : ℕ) (kind : SourceKind) (table : Table) → is_some (lookup (is_at (nat_cmp line)) table) ≡ false
    → Has fault (listed table) → Has fault (listed (insert_entry nat_cmp table line kind))
inserted fault line kind [] e has = absurd has
inserted fault line kind (e ∷ es) none has =
    let both = absent (is_eq (nat_cmp line e.0)) e.1 (lookup (is_at (nat_cmp line)) es) none in
    put_new (nat_cmp line e.0) fault line kind e es (insert_entry nat_cmp es line kind) both.0 (inserted fault line kind es both.1) has

unless_there : (there : Bool) (fault : PrepareFault) (old new : Table) → (there ≡ false → Has fault (listed old) → Has fault (listed new)) → Has fault (listed old)
    → Has fault (listed (cond there old new))
unless_there true fault old new h has = has
unless_there false fault old new h has = h refl has

put_stays : (fault : PrepareFault) (table : Table) (one : FaultyLine) → Has fault (listed table) → Has fault (listed (put_line table one))
unfolding put_line
put_stays fault table one has =
    unless_there (is_some (lookup (is_at (nat_cmp one.line)) table)) fault table (insert_entry nat_cmp table one.line one.kind) (inserted fault one.line one.kind table) has

all_stays : (fault : PrepareFault) (table : Table) (more : List FaultyLine) → Has fault (listed table) → Has fault (listed (fold put_line table more))
all_stays fault table [] has = has
all_stays fault table (one ∷ more) has = all_stays fault (put_line table one) more (put_stays fault table one has)

-- the first fault is there, and without one there is none
abbrev pub first_of : List FaultyLine → Option PrepareFault
first_of faults = option_map prepare_fault_of (slice_get faults 0)

pub first_there : (faults : List FaultyLine) → IsAmong (first_of faults) (listed (kinds_of faults))
unfolding put_line
first_there [] = refl
first_there (one ∷ more) = all_stays (prepare_fault_of one) ((one.line, one.kind) ∷ []) more (inl refl)

-- ---- the first fault of the stages
abbrev pub Tells : Result Prepared PrepareFault → List FaultyLine → Type 0
Tells due faulty = result_err due ≡ first_of faulty

-- a fault other than Memory is of a line
first_line : (fault : PrepareFault) (rest more : List FaultyLine) → fault ≢ Memory → Some fault ≡ first_of (cons_option (faulty_line fault) rest ++ more)
first_line (At line kind) rest more h = refl
first_line Memory rest more h = absurd (h refl)

no_memory : (fault : PrepareFault) (due : Result Prepared PrepareFault) → due ≡ Err fault → due ≢ Err Memory → fault ≢ Memory
no_memory fault due e h = λ m. h (e ∙ ap (λ f. Err f) m)

-- the first pass: its first fault is never adrift
not_adrift : (items : List Item) (fault : FaultyLine) → is_due items false None fault ≡ false
unfolding is_due
not_adrift items fault = go (is_same fault.kind BadOperand)
  where
    go : (b : Bool) → (b && (false || false)) ≡ false
    go true = refl
    go false = refl

placed_first : (items : List Item) (fault : PrepareFault) (rest more : List FaultyLine) → fault ≢ Memory
    → Some fault ≡ first_of (without_adrift items false None (cons_option (faulty_line fault) rest) ++ more)
placed_first items (At line kind) rest more h =
    let one = faulty line kind in
    sym (ap (λ (b : Bool). first_of ((cond b [] (one ∷ []) ++ without_adrift items true (unknown_after None one) rest) ++ more)) (not_adrift items one))
placed_first items Memory rest more h = absurd (h refl)

-- the second pass: its first fault follows from nothing
not_following : (fault : FaultyLine) → follows None fault ≡ false
unfolding follows
not_following fault = go (is_same fault.kind NoAddressability)
  where
    go : (b : Bool) → (b && false) ≡ false
    go true = refl
    go false = refl

kept_first : (has : Bool) (lines : List ℕ) (beside : ℕ → Option SourceKind) (faults : List FaultyLine)
    → first_of (without_following has lines beside None faults) ≡ first_of faults
kept_first has lines beside [] = refl
kept_first has lines beside (one ∷ more) =
    ap (λ (b : Bool). first_of ((cond b (instead one (beside one.line)) (one ∷ [])) ++ without_following has lines beside (lost_from has lines None one) more)) (not_following one)

later_reported : (listing disassembly : Bool) (made : Source) (due : Result AssemblyParts AsmFault) (later : List LineFault)
    → result_err due ≡ option_map fault_at (slice_get later 0) → prepared.by_assembly listing disassembly due ≢ Err Memory
    → Tells (prepared.by_assembly listing disassembly due) (without_following (list_any begins_section made.items) (base_lines made.items) (kind_at (kinds_beside made)) None (faulty_lines of_pass later))
later_reported listing disassembly made (Ok parts) [] e h = refl
later_reported listing disassembly made (Ok parts) (f ∷ more) e h = absurd (cc)
later_reported listing disassembly made (Err fault) [] e h = absurd (cc)
later_reported listing disassembly made (Err fault) (f ∷ more) e h =
    let same : fault ≡ fault_at f = cc in
    ap (λ x. Some (of_assembly x)) same
    ∙ first_line (of_pass f) (faulty_lines of_pass more) [] (no_memory (of_pass f) (Err (of_assembly fault)) (ap (λ x. Err (of_assembly x)) same) h)
    ∙ ap first_of (append-nil (faulty_lines of_pass (f ∷ more)))
    ∙ sym (kept_first (list_any begins_section made.items) (base_lines made.items) (kind_at (kinds_beside made)) (faulty_lines of_pass (f ∷ more)))

-- ---- all stages, by what each finds
first_lines : (fault : PrepareFault) (rest more last : List FaultyLine) → fault ≢ Memory → Some fault ≡ first_of ((cons_option (faulty_line fault) rest ++ more) ++ last)
first_lines (At line kind) rest more last h = refl
first_lines Memory rest more last h = absurd (h refl)

-- the assembly
passes_reported : (listing disassembly : Bool) (made : Source) (due : Result AssemblyParts AsmFault) (first : List LineFault) (more : List FaultyLine)
    → result_err due ≡ option_map fault_at (slice_get (first_found first (later_faults made)) 0) → prepared.by_assembly listing disassembly due ≢ Err Memory
    → (first ≡ [] → more ≡ without_following (list_any begins_section made.items) (base_lines made.items) (kind_at (kinds_beside made)) None (faulty_lines of_pass (later_faults made)))
    → Tells (prepared.by_assembly listing disassembly due) (without_adrift made.items false None (faulty_lines of_pass first) ++ more)
passes_reported listing disassembly made due [] more e h is =
    subst (Tells (prepared.by_assembly listing disassembly due)) (sym (is refl)) (later_reported listing disassembly made due (later_faults made) e h)
passes_reported listing disassembly made (Ok parts) (f ∷ first) more e h is = absurd (cc)
passes_reported listing disassembly made (Err fault) (f ∷ first) more e h is =
    let same : fault ≡ fault_at f = cc in
    ap (λ x. Some (of_assembly x)) same
    ∙ placed_first made.items (of_pass f) (faulty_lines of_pass first) more (no_memory (of_pass f) (Err (of_assembly fault)) (ap (λ x. Err (of_assembly x)) same) h)

assembled_reported : (listing disassembly : Bool) (made : Source) → prepared.by_assembly listing disassembly (assembly_of made) ≢ Err Memory
    → Tells (prepared.by_assembly listing disassembly (assembly_of made)) (stage_lines [] [] made)
unfolding assembly_faults
assembled_reported listing disassembly made h =
    passes_reported listing disassembly made (assembly_of made) (place_faults made) _ (assembly.first_is_reported made) h
    (λ none. ap (λ (first : List LineFault). without_following (list_any begins_section made.items) (base_lines made.items) (kind_at (kinds_beside made))
    (fold (lost_from (list_any begins_section made.items) (base_lines made.items)) None (faulty_lines of_pass first))
    (faulty_lines of_pass (later_faults made))) none)

-- the translation
translated_reported : (listing disassembly : Bool) (whole made : Source) (faults : List TransFault) → (faults ≡ [] → made ≡ whole)
    → prepared.by_translation listing disassembly (option_map_or (λ fault. Err fault) (slice_get faults 0) (Ok whole)) ≢ Err Memory
    → Tells (prepared.by_translation listing disassembly (option_map_or (λ fault. Err fault) (slice_get faults 0) (Ok whole))) (stage_lines [] faults made)
translated_reported listing disassembly whole made [] is h =
    subst (λ (due : Source). Tells (prepared.by_assembly listing disassembly (assembly_of due)) (stage_lines [] [] made)) (is refl)
    (assembled_reported listing disassembly made (subst (λ (due : Source). prepared.by_assembly listing disassembly (assembly_of due) ≢ Err Memory) (sym (is refl)) h))
translated_reported listing disassembly whole made (f ∷ faults) is h =
    first_lines (of_translation f) _ _ _ (no_memory (of_translation f) (Err (of_translation f)) refl h)

by_translation_reported : (listing disassembly : Bool) (read : Source) → prepared.by_translation listing disassembly (translation.translation_of read) ≢ Err Memory
    → Tells (prepared.by_translation listing disassembly (translation.translation_of read)) (stage_lines [] (translation.statement_faults read.items) (translation.mended_source read))
unfolding translation.translation_of
by_translation_reported listing disassembly read h =
    translated_reported listing disassembly (translation.made_source read) (translation.mended_source read) (translation.statement_faults read.items) (translation_whole read) h

-- the lines
read_reported : (listing disassembly : Bool) (whole read : Source) (faults : List SourceFault) → (faults ≡ [] → read ≡ whole)
    → prepared.by_source listing disassembly (option_map_or Err (slice_get faults 0) (Ok whole)) ≢ Err Memory
    → Tells (prepared.by_source listing disassembly (option_map_or Err (slice_get faults 0) (Ok whole)))
    (stage_lines faults (translation.statement_faults read.items) (translation.mended_source read))
read_reported listing disassembly whole read [] is h =
    subst (λ (due : Source). Tells (prepared.by_translation listing disassembly (translation.translation_of due)) (stage_lines [] (translation.statement_faults read.items) (translation.mended_source read)))
    (is refl)
    (by_translation_reported listing disassembly read
    (subst (λ (due : Source). prepared.by_translation listing disassembly (translation.translation_of due) ≢ Err Memory) (sym (is refl)) h))
read_reported listing disassembly whole read (f ∷ faults) is h =
    first_lines (of_source f) _ _ _ (no_memory (of_source f) (Err (of_source f)) refl h)

pub stages_reported : (listing disassembly : Bool) (all : List (List ℕ)) → Tells (prepared.prepared_of listing disassembly all) (lines_by_stages all)
unfolding prepared.prepared_of source_in
stages_reported listing disassembly all =
    read_reported listing disassembly (source_from (up_to_end false (map text_of all))) (source_read all) (line_faults false 1 all) (source_whole all)
    (prepared_not_memory listing disassembly all)

-- ---- the lines that are shown
has_line : (f : FaultyLine) (number : ℕ) (kind : SourceKind) → prepare_fault_of f ≡ At number kind → f.line ≡ number
has_line f number kind e = cc

has_kind : (f : FaultyLine) (number : ℕ) (kind : SourceKind) → prepare_fault_of f ≡ At number kind → f.kind ≡ kind
has_kind f number kind e = cc

-- a fault of a line that is shown stays
pub has_shown : (p : FaultyLine → Bool) (number : ℕ) (kind : SourceKind) (faults : List FaultyLine) → p (faulty number kind) ≡ true
    → Has (At number kind) faults → Has (At number kind) (filter p faults)
has_shown p number kind [] is h = absurd h
has_shown p number kind (f ∷ more) is (inl e) =
    let same : f ≡ faulty number kind = ap₂ faulty (has_line f number kind e) (has_kind f number kind e) in
    subst (λ (b : Bool). Has (At number kind) (cond b (f ∷ filter p more) (filter p more))) (sym (ap p same ∙ is)) (inl e)
has_shown p number kind (f ∷ more) is (inr h) = go (p f) (has_shown p number kind more is h)
  where
    go : (b : Bool) → Has (At number kind) (filter p more) → Has (At number kind) (cond b (f ∷ filter p more) (filter p more))
    go true m = inr m
    go false m = m

among_shown : (p : FaultyLine → Bool) (first : Option FaultyLine) (faults : List FaultyLine) → IfSome first (λ one. p one ≡ true)
    → IsAmong (option_map prepare_fault_of first) faults → IsAmong (option_map prepare_fault_of first) (filter p faults)
among_shown p None faults is h = ap (filter p) h
among_shown p (Some one) faults is h = has_shown p one.line one.kind faults is h

-- no line is cut where all can be read
none_unread : (items : List Item) → list_any (λ (item : Item). false) items ≡ false
none_unread [] = refl
none_unread (item ∷ items) = none_unread items

shown_whole : (items : List Item) (fault : FaultyLine) → is_shown items [] fault ≡ true
unfolding is_shown
shown_whole items fault = ap (λ (b : Bool). not b) (none_unread (continuations items fault.line))

own_line : (n : ℕ) → (n == n) ≡ true
own_line n = grind arith

-- the first fault is shown: it is of a line that can't be read, or all can
shown_itself : (items : List Item) (one : FaultyLine) (rest : List FaultyLine) → is_shown items (one ∷ rest) one ≡ true
unfolding is_shown
shown_itself items one rest =
    let is_unread = λ (item : Item).
    list_any (λ (f : FaultyLine). f.line == item.line && not (is_same f.kind BadContinuation)) (one ∷ rest) in
    ap (λ (b : Bool). (b || list_any (λ (f : FaultyLine). f.line == one.line) rest) || not (list_any is_unread (continuations items one.line))) (own_line one.line)

first_shown : (items : List Item) (unread middle last : List FaultyLine) → IfSome (slice_get ((unread ++ middle) ++ last) 0) (λ one. is_shown items unread one ≡ true)
first_shown items (one ∷ rest) middle last = shown_itself items one rest
first_shown items [] middle last = go (slice_get (middle ++ last) 0)
  where
    go : (first : Option FaultyLine) → IfSome first (λ one. is_shown items [] one ≡ true)
    go None = tt
    go (Some one) = shown_whole items one

pub is_among : (listing disassembly : Bool) (all : List (List ℕ)) → IsAmong (result_err (prepared.prepared_of listing disassembly all)) (faults_of all)
unfolding faults_of
is_among listing disassembly all =
    let unread = faulty_lines of_source (line_faults false 1 all) in
    let p = is_shown (source_read all).items unread in
    subst (λ (fault : Option PrepareFault). IsAmong fault (filter p (listed (kinds_of (lines_by_stages all))))) (sym (stages_reported listing disassembly all))
    (among_shown p (slice_get (lines_by_stages all) 0) (listed (kinds_of (lines_by_stages all)))
    (first_shown (source_read all).items unread _ _) (first_there (lines_by_stages all)))
