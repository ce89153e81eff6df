-- The part of an EXEC statement that is at fault, and what it lacks (own).
use Rattle.std.specs.Prelude.{ℕ, Bool, ◌&&◌, not, if◌then◌else◌, Option, None, List, [], ◌∷◌, bit_or, codes, drop, filter, fold, length, option_map, slice_get, take}
use Rattle.std.specs.List.{find, join_by, list_any}
use Rattle.std.specs.Option.{option_map_or, option_or, option_zip}
use Rattle.std.specs.Str.{bytes_eq}
use Rattle.cx_base.specs.Commands.{command_named, row_of}
use Rattle.cx_base.specs.Legal.{has_bit, lists_conditions, rule_holds}
use Rattle.cx_base.specs.Options.{option_name}
use Rattle.cx_base.specs.declared.commands.Command.{Command}
use Rattle.cx_base.specs.declared.options.CommandOption.{CommandOption}
use Rattle.cx_base.specs.declared.options.Rule.{Rule}
use Rattle.cx_source.specs.Lines.{trim_blanks}
use Rattle.cx_asm_build.specs.declared.faults.SourceKind.{SourceKind}
use Rattle.cx_asm_build.specs.declared.faults.SourceKind.TheVariants as kind
use Rattle.cx_look_faults.specs.Judging.{has_exec_fault}
use Rattle.cx_look_faults.specs.Spans.{span, spans_of, span_text}
use Rattle.cx_look_faults.specs.declared.commands.Phrase.{Phrase}
use Rattle.cx_look_faults.specs.declared.spans.Cut.TheVariants.{Words}
use Rattle.cx_look_faults.specs.declared.spans.Span.{Span}

-- the command that the words after CICS name, and how many words its name takes
abbrev pub command_in_words : List ℕ → List Span → Option (Command × ℕ)
command_in_words operand words =
    let text = λ (k : ℕ). option_map_or (λ word. span_text word operand) (slice_get words k) [] in
    if bytes_eq (text 0) (codes "CICS") then command_named (text 1) (text 2) else None

-- the words after the one at a place
abbrev pub words_after : List Span → ℕ → List Span
words_after words place = drop 1 (drop place words)

-- ---- words with their arguments
-- each word goes on to where the next begins, and the last to the operand's end
abbrev pub phrases : List ℕ → List Span → List Phrase
phrases operand [] = []
phrases operand (word ∷ more) =
    let end = option_map_or (λ next. next.start) (slice_get more 0) (length operand) in
    record { word = word; full = span word.start end } ∷ phrases operand more

-- without the blanks at its end
abbrev pub written_phrase : List ℕ → Phrase → Span
written_phrase operand phrase = span phrase.full.start (length (trim_blanks (take phrase.full.end operand)))

-- ---- the word at fault
-- The first word after the command's name up to which the statement has the fault; a bad argument with its word, else
-- the word alone.
abbrev pub is_at_fault : SourceKind → List ℕ → Phrase → Bool
is_at_fault kind operand phrase = has_exec_fault kind (take phrase.full.end operand)

abbrev pub marked : SourceKind → List ℕ → Phrase → Span
marked kind.BadArgument operand phrase = written_phrase operand phrase
marked kind operand phrase = phrase.word

-- before it the command's name itself, which begins with the word at place 1 and ends with the one at `last`
abbrev pub word_by : SourceKind → List ℕ → List Span → ℕ → Option Span
word_by kind operand words last =
    let more = words_after words last in
    let head = take (option_map_or (λ next. next.start) (slice_get more 0) (length operand)) operand in
    if has_exec_fault kind head
    then option_map (λ both. span both.0.start both.1.end) (option_zip (slice_get words 1) (slice_get words last))
    else option_map (marked kind operand) (find (is_at_fault kind operand) (phrases operand more))

-- where there is no command, the word after the first
unfoldable pub word_at_fault : SourceKind → List ℕ → Option Span
word_at_fault kind operand =
    let words = spans_of Words operand in
    option_map_or (λ found. word_by kind operand words found.1) (command_in_words operand words)
    (option_or (slice_get words 1) (slice_get words 0))

-- ---- what is missing
-- an option is given
abbrev pub operand_has_word : List ℕ → List Span → List ℕ → Bool
operand_has_word operand words name = list_any (λ word. bytes_eq (span_text word operand) name) words

-- the bits of those options whose names are given
abbrev pub given_byte : (List ℕ → Bool) → List CommandOption → ℕ
given_byte gives options = fold (λ byte o. if gives (option_name o.name) then bit_or byte o.bit else byte) 0 options

-- what a rule asks for that doesn't hold of an option byte: the options with any of which it would
abbrev pub asked : List CommandOption → ℕ → Rule → List ℕ
asked options byte rule =
    let mends = λ (o : CommandOption). rule_holds (has_bit (bit_or byte o.bit)) rule in
    join_by (λ (o : CommandOption). option_name o.name) (codes " OR ") (filter mends options)

-- a condition, where the command lists conditions; the first required option that isn't given, or else what the first
-- rule asks for that doesn't hold
abbrev pub missing_in : Command → (List ℕ → Bool) → List ℕ
missing_in command gives =
    let options = (row_of command).options in let byte = given_byte gives options in
    if lists_conditions command then codes "CONDITION"
    else option_map_or (λ o. option_name o.name) (find (λ o. o.required && not (gives (option_name o.name))) options)
    (option_map_or (asked options byte) (find (λ rule. not (rule_holds (has_bit byte) rule)) (row_of command).rules) [])

-- the names of what an EXEC statement lacks
unfoldable pub missing : List ℕ → List ℕ
missing operand =
    let words = spans_of Words operand in
    option_map_or (λ found. missing_in found.0 (operand_has_word operand (words_after words found.1)))
    (command_in_words operand words) []
