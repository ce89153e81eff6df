-- The faulty lines of a source: of its lines, its EXEC statements and its assembly, each stage on what the one before
-- gives in spite of its faults (own).
use Rattle.std.specs.Prelude.{ℕ, Bool, true, false, ◌&&◌, ◌||◌, not, ◌==◌, min, nat_lt, if◌then◌else◌, ◌-◌, Option, Some, None, List, [], ◌∷◌, ◌++◌, codes, drop, filter, fold, is_some, length, map, option_map, reverse, take}
use Rattle.std.specs.BTreeMap.{insert_entry, is_at}
use Rattle.std.specs.List.{filter_map, find, list_any, prefix_len}
use Rattle.std.specs.Map.{lookup}
use Rattle.std.specs.Option.{option_map_or, option_to_list}
use Rattle.std.specs.Ordering.{nat_cmp}
use Rattle.cx_asm.specs.Assembly.{fault_at, later_faults}
use Rattle.cx_asm_pass1.specs.AllFaults.{place_faults}
use Rattle.cx_asm_pass1.specs.declared.place.LineFault.{LineFault}
use Rattle.cx_asm_pass2.specs.Statements.{statements_of}
use Rattle.cx_asm_pass2.specs.Whole.{whole_of}
use Rattle.cx_source.specs.Faults.{line_faults}
use Rattle.cx_source.specs.Mended.{source_read}
use Rattle.cx_source.specs.declared.source.Item.{Item}
use Rattle.cx_source.specs.Statements.{is_continued}
use Rattle.cx_source.specs.declared.source.Source.{Source}
use Rattle.cx_source.specs.declared.source.SourceFault.{SourceFault}
use Rattle.cx_source.specs.declared.source.Stmt.{Stmt}
use Rattle.cx_translate.specs.Sections.{begins_section, has_operation}
use Rattle.cx_translate.specs.Translation.{mended_source, statement_faults}
use Rattle.cx_translate.specs.declared.faults.TransFault.{TransFault}
use Rattle.cx_asm_build.specs.Kinds.{of_assembly, of_source, of_translation}
use Rattle.cx_asm_build.specs.contracts.faults.SourceKindPartialEq.TheImpl as kind_impl
use Rattle.cx_asm_build.specs.declared.faults.PrepareFault.{PrepareFault}
use Rattle.cx_asm_build.specs.declared.faults.PrepareFault.TheVariants.{At, Memory}
use Rattle.cx_asm_build.specs.declared.faults.SourceKind.{SourceKind}
use Rattle.cx_asm_build.specs.declared.faults.SourceKind.TheVariants.{BadContinuation, BadOperand, NoAddressability, UnknownOperation}
use Rattle.cx_look_faults.specs.Beside.{faults_beside}
use Rattle.cx_look_faults.specs.declared.faults.FaultyLine.{FaultyLine}

abbrev pub faulty : ℕ → SourceKind → FaultyLine
faulty line kind = record { line = line; kind = kind }

-- the line that a fault is of; Memory is of none
abbrev pub faulty_line : PrepareFault → Option FaultyLine
faulty_line (At line kind) = Some (faulty line kind)
faulty_line Memory = None

abbrev pub faulty_lines : {F : Type 0} → (F → PrepareFault) → List F → List FaultyLine
faulty_lines reported faults = filter_map (λ fault. faulty_line (reported fault)) faults

abbrev pub of_pass : LineFault → PrepareFault
of_pass fault = of_assembly (fault_at fault)

-- whether two kinds are the same
abbrev pub is_same : SourceKind → SourceKind → Bool
is_same = (kind_impl.ghosts).eq

-- ---- what bases depend on
-- a section begins on a line; a USING or a section
abbrev pub begins_any : Item → Bool
begins_any item = begins_section item || has_operation (codes "DSECT") item.stmt

unfoldable pub sets_bases : Item → Bool
sets_bases item = has_operation (codes "USING") item.stmt || begins_any item

abbrev pub base_lines : List Item → List ℕ
base_lines items = map (λ item. item.line) (filter sets_bases items)

-- Bases are lost by a fault of such a line; where no control section begins, of any line.
abbrev pub loses_bases : Bool → List ℕ → FaultyLine → Bool
loses_bases has lines fault = not has || list_any (λ line. line == fault.line) lines

-- the first line by whose fault bases are lost, after one more fault
unfoldable pub lost_from : Bool → List ℕ → Option ℕ → FaultyLine → Option ℕ
lost_from has lines from fault =
    if loses_bases has lines fault then Some (option_map_or (min fault.line) from fault.line) else from

-- ---- by number
-- the fault of a line, of those by the lines' numbers
abbrev pub kind_at : List (ℕ × SourceKind) → ℕ → Option SourceKind
kind_at sorted line = lookup (is_at (nat_cmp line)) sorted

-- A line has its place by its number, and keeps the fault that it has.
unfoldable pub put_line : List (ℕ × SourceKind) → FaultyLine → List (ℕ × SourceKind)
put_line sorted fault =
    if is_some (kind_at sorted fault.line) then sorted else insert_entry nat_cmp sorted fault.line fault.kind

abbrev pub kinds_of : List FaultyLine → List (ℕ × SourceKind)
kinds_of faults = fold put_line [] faults

-- ---- lines after that on which bases are lost
-- NoAddressability isn't reported there, but what else is wrong with the line, if anything is.
unfoldable pub follows : Option ℕ → FaultyLine → Bool
follows from fault = is_same fault.kind NoAddressability && option_map_or (λ lost. nat_lt lost fault.line) from false

abbrev pub instead : FaultyLine → Option SourceKind → List FaultyLine
instead fault beside = option_to_list (option_map (faulty fault.line) beside)

abbrev pub without_following : Bool → List ℕ → (ℕ → Option SourceKind) → Option ℕ → List FaultyLine → List FaultyLine
without_following has lines beside from [] = []
without_following has lines beside from (fault ∷ more) =
    (if follows from fault then instead fault (beside fault.line) else fault ∷ [])
    ++ without_following has lines beside (lost_from has lines from fault) more

-- what else is wrong with lines that have NoAddressability
unfoldable pub kinds_beside : Source → List (ℕ × SourceKind)
kinds_beside made =
    let kind_of = kind_at (kinds_of (faulty_lines of_pass (later_faults made))) in
    kinds_of (faulty_lines of_pass (faults_beside (whole_of made) kind_of (statements_of made)))

-- ---- sections that don't begin
-- An unknown operation outside the control section may be that of a section. So the first BadOperand after it isn't
-- reported, where no section begins between: it says that what stands there may not stand outside one.
abbrev pub is_outside : List Item → ℕ → ℕ → Bool
is_outside items unknown number =
    let section = find (λ item. nat_lt item.line number && begins_any item) (reverse items) in
    option_map_or (λ item. nat_lt item.line unknown && not (begins_section item)) section true

-- the line of an unknown operation after which there was no BadOperand, after one more fault
abbrev pub unknown_after : Option ℕ → FaultyLine → Option ℕ
unknown_after before fault =
    if is_same fault.kind UnknownOperation then Some fault.line
    else (if is_same fault.kind BadOperand then None else before)

-- Where a line before the first CSECT or START has a fault, that isn't reported as a second control section: what
-- stands outside any has begun one.
abbrev pub is_late : List Item → ℕ → Bool
is_late items number =
    let is_named = λ (item : Item). option_map_or (λ (s : Stmt). not (length s.name == 0)) item.stmt false in
    list_any (λ item. item.line == number && begins_section item && is_named item) items
    && not (list_any (λ item. nat_lt item.line number && begins_section item) items)

-- those that aren't due to a line before; whether there is one
unfoldable pub is_due : List Item → Bool → Option ℕ → FaultyLine → Bool
is_due items met unknown fault =
    let is_adrift = option_map_or (λ line. is_outside items line fault.line) unknown false in
    is_same fault.kind BadOperand && (is_adrift || (met && is_late items fault.line))

abbrev pub without_adrift : List Item → Bool → Option ℕ → List FaultyLine → List FaultyLine
without_adrift items met unknown [] = []
without_adrift items met unknown (fault ∷ more) =
    (if is_due items met unknown fault then [] else fault ∷ [])
    ++ without_adrift items true (unknown_after unknown fault) more

-- ---- the stages
-- By the faults of a source's lines, of its EXEC statements, and of what they are made into. By those of the first
-- three stages bases are lost for the fourth.
abbrev pub stage_lines : List SourceFault → List TransFault → Source → List FaultyLine
stage_lines unread untranslated made =
    let has = list_any begins_section made.items in let lines = base_lines made.items in
    let first = faulty_lines of_pass (place_faults made) in
    let read = faulty_lines of_source unread ++ faulty_lines of_translation untranslated in
    let lost = fold (lost_from has lines) (fold (lost_from has lines) None read) first in
    (faulty_lines of_source unread
    ++ (faulty_lines of_translation untranslated ++ without_adrift made.items false None first))
    ++ without_following has lines (kind_at (kinds_beside made)) lost (faulty_lines of_pass (later_faults made))

abbrev pub lines_by_stages : List (List ℕ) → List FaultyLine
lines_by_stages all =
    let read = source_read all in
    stage_lines (line_faults false 1 all) (statement_faults read.items) (mended_source read)

-- ---- statements on several lines
-- the lines that continue the one of a number
abbrev pub continuations : List Item → ℕ → List Item
continuations items number =
    take (prefix_len (λ (it : Item). is_continued true it.text) (drop (number - 1) items)) (drop number items)

-- Of a statement with a line that can't be read no other fault is reported than those of its lines: one that continues
-- it has a fault of its own, and not that it doesn't continue the one before it.
unfoldable pub is_shown : List Item → List FaultyLine → FaultyLine → Bool
is_shown items unread fault =
    let is_unread = λ (item : Item).
    list_any (λ one. one.line == item.line && not (is_same one.kind BadContinuation)) unread in
    list_any (λ one. one.line == fault.line) unread || not (list_any is_unread (continuations items fault.line))

-- the faulty lines of the source that lines make, ascending, each with the lowest fault of the first stage that finds
-- one
unfoldable pub faults_of : List (List ℕ) → List FaultyLine
faults_of all =
    let unread = faulty_lines of_source (line_faults false 1 all) in
    let sorted = map (λ entry. faulty entry.0 entry.1) (kinds_of (lines_by_stages all)) in
    filter (is_shown (source_read all).items unread) sorted
