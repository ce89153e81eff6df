-- What is accepted and is most likely not meant: in an EXEC statement an address where a value is due, and a literal
-- where the command writes; in a DC `*` in an item of several copies (own).
use Rattle.std.specs.Prelude.{ℕ, Bool, ◌&&◌, false, if◌then◌else◌, is_none, nat_lt, Option, Some, None, List, [], ◌++◌, codes, map, option_and_then, option_map}
use Rattle.std.specs.List.{filter_map, find, flat_map, list_any}
use Rattle.std.specs.Option.{option_map_or, option_or}
use Rattle.std.specs.Result.{result_ok}
use Rattle.std.specs.Str.{bytes_eq}
use Rattle.cx_base.specs.Commands.{row_of}
use Rattle.cx_base.specs.Options.{option_name}
use Rattle.cx_base.specs.declared.options.ArgumentKind.{ArgumentKind}
use Rattle.cx_base.specs.declared.options.ArgumentKind.TheVariants as argument
use Rattle.cx_base.specs.declared.options.CommandOption.{CommandOption}
use Rattle.cx_source.specs.Mended.{source_read}
use Rattle.cx_source.specs.declared.source.Item.{Item}
use Rattle.cx_source.specs.declared.source.Stmt.{Stmt}
use Rattle.cx_translate.specs.Names.{bare_argument}
use Rattle.cx_translate.specs.Translation.{mended_source}
use Rattle.cx_asm_expressions.specs.Digits.{is_number}
use Rattle.cx_asm_expressions.specs.Expressions.{value_of}
use Rattle.cx_asm_expressions.specs.Items.{Constant, constant_in, parenthesized_body}
use Rattle.cx_asm_expressions.specs.declared.values.Value.{Value}
use Rattle.cx_asm_operands.specs.Storage.{is_literal}
use Rattle.cx_asm_pass2.specs.Whole.{Whole, whole_of}
use Rattle.cx_asm_build.specs.declared.faults.SourceKind.{SourceKind}
use Rattle.cx_look_faults.specs.Commands.{command_in_words, operand_has_word, phrases, words_after, written_phrase}
use Rattle.cx_look_faults.specs.Faults.{kind_at, kinds_of}
use Rattle.cx_look_faults.specs.Marks.{part_spot}
use Rattle.cx_look_faults.specs.Spans.{span, spans_of, span_text}
use Rattle.cx_look_faults.specs.declared.commands.Phrase.{Phrase}
use Rattle.cx_look_faults.specs.declared.faults.FaultyLine.{FaultyLine}
use Rattle.cx_look_faults.specs.declared.notes.Note.{Note}
use Rattle.cx_look_faults.specs.declared.spans.Cut.TheVariants.{Operands, Terms, Words}
use Rattle.cx_look_faults.specs.declared.spans.Span.{Span}

-- a note says something of a part of a statement's operand
unfoldable pub note_on : List Item → Item → Stmt → List ℕ × Span → Note
note_on items item stmt said =
    record { spot = part_spot items item stmt (Some said.1); text = span_text said.1 stmt.operand ++ said.0 }

-- ---- an argument
-- the one after a word; empty where there is none
abbrev pub written_argument : List ℕ → Phrase → List ℕ
written_argument operand phrase =
    let after = bare_argument (span_text (span phrase.word.end phrase.full.end) operand) in
    option_map_or bare_argument (parenthesized_body after) []

-- what is due where it is an address: a number, or an absolute symbol or expression; and where it is a literal
abbrev pub if_absolute : Whole → List ℕ → List ℕ → Option (List ℕ)
if_absolute whole text due =
    let is_absolute = λ (value : Value). is_none value.section in
    if option_map_or is_absolute (result_ok (value_of whole.find None text)) false
    then Some (codes " IS AN ADDRESS: " ++ due) else None

abbrev pub if_literal : List ℕ → List ℕ → Option (List ℕ)
if_literal text due = if is_literal text then Some (codes " IS WRITTEN: " ++ due) else None

-- of a halfword that the command reads, and of one that it writes
abbrev pub of_read : Whole → List ℕ → Option (List ℕ)
of_read whole text = if_absolute whole text
    (if is_number 10 text then codes "=H'" ++ text ++ codes "'" else codes "=AL2(" ++ text ++ codes ")")

abbrev pub of_written : Whole → List ℕ → Option (List ℕ)
of_written whole text =
    option_or (if_literal text (codes "A HALFWORD FIELD")) (if_absolute whole text (codes "A HALFWORD FIELD"))

-- of an option's argument, where REWRITE is given or not
abbrev pub remark : Whole → Bool → List ℕ → ArgumentKind → Option (List ℕ)
remark whole rewrites text argument.Halfword = of_read whole text
remark whole rewrites text argument.HalfwordBothWays = of_written whole text
remark whole rewrites text argument.HalfwordBothWaysWithoutSet = of_written whole text
remark whole rewrites text argument.HalfwordOut = of_written whole text
remark whole rewrites text argument.HalfwordOutWithoutRewrite =
    if rewrites then of_read whole text else of_written whole text
remark whole rewrites text argument.Byte = if_absolute whole text (codes "=AL1(" ++ text ++ codes ")")
remark whole rewrites text argument.BytesWritten = if_literal text (codes "A FIELD")
remark whole rewrites text kind = None

-- ---- EXEC
-- of a word with its argument
unfoldable pub remark_on : Whole → Bool → List CommandOption → List ℕ → Phrase → Option (List ℕ × Span)
remark_on whole rewrites options operand phrase =
    let option = find (λ o. bytes_eq (option_name o.name) (span_text phrase.word operand)) options in
    let said = option_and_then (λ o. remark whole rewrites (written_argument operand phrase) o.kind) option in
    option_map (λ text. (text, written_phrase operand phrase)) said

-- of a statement
abbrev pub exec_remarks : Whole → List ℕ → List (List ℕ × Span)
exec_remarks whole operand =
    let words = spans_of Words operand in
    option_map_or (λ found.
    let more = words_after words found.1 in
    let rewrites = operand_has_word operand more (codes "REWRITE") in
    filter_map (remark_on whole rewrites (row_of found.0).options operand) (phrases operand more))
    (command_in_words operand words) []

-- ---- DC
-- an item of several copies, one of whose terms is `*`: the place of the first copy, in each
unfoldable pub copies_place : List ℕ → Bool
copies_place text =
    option_map_or (λ (item : Constant). nat_lt 1 item.duplication) (result_ok (constant_in false text)) false
    && list_any (λ term. bytes_eq (span_text term text) (codes "*")) (spans_of Terms text)

abbrev pub copy_remark : List ℕ → Span → Option (List ℕ × Span)
copy_remark operand part =
    if copies_place (span_text part operand) then Some (codes " IS THE SAME IN ALL COPIES", part) else None

-- ---- a source
abbrev pub remarks_in : Whole → Stmt → List (List ℕ × Span)
remarks_in whole stmt =
    if bytes_eq stmt.operation (codes "EXEC") then exec_remarks whole stmt.operand
    else (if bytes_eq stmt.operation (codes "DC")
    then filter_map (copy_remark stmt.operand) (spans_of Operands stmt.operand) else [])

-- of a line without a fault, by what the fault of a line is
unfoldable pub notes_on : Whole → (ℕ → Option SourceKind) → List Item → Item → List Note
notes_on whole kind_of items item =
    let notes = λ (stmt : Stmt). map (note_on items item stmt) (remarks_in whole stmt) in
    if is_none (kind_of item.line) then option_map_or notes item.stmt [] else []

-- the notes of the source that lines make, whose faulty lines are these
unfoldable pub notes_of : List (List ℕ) → List FaultyLine → List Note
notes_of lines faults =
    let read = source_read lines in
    flat_map (notes_on (whole_of (mended_source read)) (kind_at (kinds_of faults)) read.items) read.items
