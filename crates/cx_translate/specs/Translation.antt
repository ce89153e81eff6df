-- A source translated (Application Programmer's Reference Manual, SC33-0077, "EXEC CICS" command format; what is put in
-- place of an EXEC statement is this product's own).
use Rattle.std.specs.Prelude.{option_and_then, ◌≡◌, Bool, false, ◌&&◌, ◌||◌, if◌then◌else◌, List, [], ◌∷◌, ◌++◌, Option, None, is_none, Result, Ok, Err, slice_get, is_some, codes}
use Rattle.std.specs.List.{filter_map, list_any}
use Rattle.std.specs.Option.{option_map_or}
use Rattle.cx_source.specs.declared.source.Item.{Item}
use Rattle.cx_source.specs.declared.source.Source.{Source}
use Rattle.cx_source.specs.Faults.{unless_faulty}
use Rattle.cx_source.specs.Statements.{is_continued}
use Rattle.cx_translate.specs.declared.faults.TransFault.{TransFault}
use Rattle.cx_translate.specs.declared.faults.TransFault.TheVariants.{Memory}
use Rattle.cx_translate.specs.Words.{words_of}
use Rattle.cx_translate.specs.Refusals.{refusal_of}
use Rattle.cx_translate.specs.Expansion.{made_of, stmt}
use Rattle.cx_translate.specs.Sections.{begins_exec, lines, with_bases, with_eib, with_storage}

-- a line continues an EXEC statement: the EXEC's line before it, or its continuation, is continued, and no statement
-- begins here
abbrev pub is_dropped : Bool → Item → Bool
is_dropped continues item = continues && is_none item.stmt

-- what a line becomes: of an EXEC statement the made lines for all of its lines, every other line itself
unfoldable pub expansion : Bool → Item → List Item
expansion continues item =
    if is_dropped continues item then [] else (if begins_exec item
    then option_map_or (λ exec. lines item.line (made_of exec.name (words_of exec.operand))) item.stmt []
    else item ∷ [])

-- whether the next line continues an EXEC statement
unfoldable pub continues_exec : Bool → Item → Bool
continues_exec continues item =
    (is_dropped continues item || begins_exec item) && is_continued (is_dropped continues item) item.text

abbrev pub expanded_items : Bool → List Item → List Item
expanded_items continues [] = []
expanded_items continues (item ∷ rest) = expansion continues item ++ expanded_items (continues_exec continues item) rest

-- the fault of the EXEC statement that begins on a line, with the line's number
unfoldable pub fault_at : Item → Option TransFault
fault_at item =
    if begins_exec item then option_and_then (λ exec. refusal_of item.line (words_of exec.operand)) item.stmt else None

-- those of all EXEC statements, in their order
abbrev pub statement_faults : List Item → List TransFault
statement_faults items = filter_map fault_at items

-- the lines of a source that has an EXEC statement
unfoldable pub translation : List Item → List Item
translation items = with_eib (with_bases (with_storage (expanded_items false items)))

-- what a source is translated to where no EXEC statement is faulty; without EXEC it stays as it is
unfoldable pub made_source : Source → Source
made_source source = if list_any begins_exec source.items then record { items = translation source.items } else source

-- the source translated, or its first fault
unfoldable pub translation_of : Source → Result Source TransFault
translation_of source = option_map_or Err (slice_get (statement_faults source.items) 0) (Ok (made_source source))

-- The answer is the one due, unless memory runs out.
abbrev pub AnswersAs : Result Source TransFault → Result Source TransFault → Type 0
AnswersAs due (Err Memory) = Unit {0}
AnswersAs due result = due ≡ result

-- the source translated, or all its faults
unfoldable pub translation_or_faults : Source → Result Source (List TransFault)
translation_or_faults source = unless_faulty (statement_faults source.items) (made_source source)

-- ---- with faults
-- what an EXEC statement at fault becomes: DS 0H, with its name
abbrev pub stand_in : Item → List Item
stand_in item = option_map_or (λ exec. lines item.line (stmt exec.name (codes "DS") (codes "0H") ∷ [])) item.stmt []

-- what a line becomes in spite of a fault
unfoldable pub mended_expansion : Bool → Item → List Item
mended_expansion continues item = if is_some (fault_at item) then stand_in item else expansion continues item

abbrev pub mended_items : Bool → List Item → List Item
mended_items continues [] = []
mended_items continues (item ∷ rest) =
    mended_expansion continues item ++ mended_items (continues_exec continues item) rest

-- what a source is translated to in spite of its faults
unfoldable pub mended_source : Source → Source
mended_source source =
    if list_any begins_exec source.items
    then record { items = with_eib (with_bases (with_storage (mended_items false source.items))) }
    else source
