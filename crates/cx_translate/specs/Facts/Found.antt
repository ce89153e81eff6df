-- Parts of a translation by what was found, for the lemmas of this crate and of those above.
use Rattle.std.specs.Prelude.{ℕ, Bool, false, not, bit_or, if◌then◌else◌, Option, Some, option_and_then, option_map, Result, Ok, Err, List, [], ◌∷◌, codes, drop, map, take}
use Rattle.std.specs.List.{position}
use Rattle.std.specs.Option.{option_map_or, option_to_list}
use Rattle.cx_base.specs.Eib.{eib_pieces}
use Rattle.cx_source.specs.Statements.{is_continued}
use Rattle.cx_source.specs.declared.source.Item.{Item}
use Rattle.cx_source.specs.declared.source.Source.{Source}
use Rattle.cx_source.specs.declared.source.Stmt.{Stmt}
use Rattle.cx_translate.specs.declared.faults.TransFault.{TransFault}
use Rattle.cx_base.specs.declared.commands.Command.{Command}
use Rattle.cx_base.specs.declared.conditions.Condition.{Condition}
use Rattle.cx_base.specs.declared.legal.ListedCondition.{ListedCondition}
use Rattle.cx_base.specs.declared.options.CommandOption.{CommandOption}
use Rattle.cx_base.specs.declared.options.ArgumentKind.{ArgumentKind}
use Rattle.cx_base.specs.Options.{option_name}
use Rattle.cx_translate.specs.declared.due_arguments.DueArgument.{DueArgument}
use Rattle.cx_translate.specs.declared.words.Argument.{Argument}
use Rattle.cx_translate.specs.Call.{listed_condition, operand_of}
use Rattle.cx_translate.specs.DueArguments.{suits}
use Rattle.cx_translate.specs.declared.faults.TransFault.TheVariants.{UnknownCommand}
use Rattle.cx_translate.specs.declared.words.Word.{Word}
use Rattle.cx_translate.specs.Expansion.{made_in, made_of, stmt}
use Rattle.cx_translate.specs.Refusals.{fault_in, refusal_of, is_given}
use Rattle.cx_translate.specs.Sections.{bases, begins_section, field, lines, name_at, put_before, put_after, storage_fields}
use Rattle.cx_translate.specs.Words.{words_of}

-- ---- what is put in at a place, if there is one
abbrev pub listed_line : Option Item → ℕ
listed_line item = option_map_or (λ i. i.line) item 0

abbrev pub continued : Option Item → Bool
continued item = option_map_or (λ i. is_continued false i.text) item false

abbrev pub storage_section : List Stmt
storage_section = stmt (codes "DFHEISTG") (codes "DSECT") [] ∷ storage_fields

abbrev pub eib_section : List Stmt
eib_section = stmt (codes "DFHEIBLK") (codes "DSECT") [] ∷ map field eib_pieces

abbrev pub storage_before : Option ℕ → List Item → List Item
storage_before place items = option_map_or (λ p. put_before storage_section p items) place items

abbrev pub storage_after : Option ℕ → List Item → List Item
storage_after place items = option_map_or (λ p. put_after storage_fields p items) place (storage_before (position begins_section items) items)

abbrev pub bases_after : Option ℕ → List Item → List Item
bases_after place items = option_map_or (λ p. put_after (bases (name_at p items)) p items) place items

abbrev pub eib_before : Option ℕ → List Item → List Item
eib_before place items = option_map_or (λ p. put_before eib_section p items) place items

abbrev pub made_lines : ℕ → Option Stmt → List Item
made_lines line statement = option_map_or (λ exec. lines line (made_of exec.name (words_of exec.operand))) statement []

abbrev pub judged : Option TransFault → Source → Result Source TransFault
judged fault source = option_map_or (λ f. Err f) fault (Ok source)

abbrev pub operand_by : ArgumentKind → Option (List ℕ) → List (List ℕ)
operand_by kind argument = option_to_list (option_map (operand_of kind) argument)

abbrev pub listed_by : Option Condition → Argument → List ListedCondition
listed_by condition argument = option_to_list (option_map (λ found. listed_condition found argument) condition)

abbrev pub with_option : List Word → ℕ → CommandOption → ℕ
with_option words byte option = if is_given words (option_name option.name) then bit_or byte option.bit else byte

abbrev pub is_wrong : Option DueArgument → Argument → Bool
is_wrong due argument = option_map_or (λ it. not (suits it argument)) due false

abbrev pub made_by : List ℕ → List Word → Option (Command × ℕ) → List Stmt
made_by name words found = option_map_or (λ f. made_in name f.0 (drop f.1 (drop 1 words))) found []

abbrev pub fault_of_command : ℕ → List Word → Option (Command × ℕ) → Option TransFault
fault_of_command line words found = option_map_or
    (λ f. fault_in line f.0 (take 1 words) (take f.1 (drop 1 words)) (drop f.1 (drop 1 words))) found (Some (UnknownCommand line))

abbrev pub fault_in_stmt : ℕ → Option Stmt → Option TransFault
fault_in_stmt line statement = option_and_then (λ exec. refusal_of line (words_of exec.operand)) statement
