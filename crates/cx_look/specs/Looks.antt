-- The table of HELP, and what a line that looks at a region asks (own).
use Rattle.std.specs.Prelude.{ℕ, ◌==◌, ◌&&◌, nat_le, if◌then◌else◌, Option, Some, None, List, [], ◌∷◌, length, codes}
use Rattle.std.specs.List.{find}
use Rattle.std.specs.Option.{option_and_then, option_map}
use Rattle.std.specs.Str.{bytes_eq}
use Rattle.cx_ebcdic.specs.Names.{padded_name}
use Rattle.cx_script_actions.specs.Alterations.{hex_number}
use Rattle.cx_script_actions.specs.Words.{after_first_blank, hex_bytes, number_with_digits, two_words, word}
use Rattle.cx_look.specs.declared.look.Look.{Look}
use Rattle.cx_look.specs.declared.look.Look.TheVariants as look
use Rattle.cx_look.specs.declared.look.Subject.{Subject}
use Rattle.cx_look.specs.declared.look.Subject.TheVariants as subject

-- ---- the table of HELP
-- the line of a word that begins a look, or another line that a script of `cicsedf` doesn't have: its form, in which
-- brackets are round what may be left out, and what it does
abbrev pub help_line : Subject → List ℕ
help_line subject.Run =
    codes "RUN term [n] [stop]  at most n turns of the terminal; stop: BEFORE ABEND, TO program line"
help_line subject.Watch = codes "WATCH aaaaaa n       each change of one of n bytes; also WATCH term name, WATCH OFF"
help_line subject.Cover =
    codes "COVER ON             counts from here on how often each instruction is run; also COVER OFF"
help_line subject.Covered =
    codes "COVERED [program]    what was run since then, and what never was; also COVERED program LINES"
help_line subject.Queues = codes "QUEUES               the temporary storage queues"
help_line subject.Queue = codes "QUEUE name [k]       a queue with its items, or its item k as a whole"
help_line subject.Programs = codes "PROGRAMS             the programs"
help_line subject.Tasks = codes "TASKS                each terminal, and what its task is doing"
help_line subject.Resources = codes "RESOURCES            the resources that are owned, and who waits for them"
help_line subject.Terminals = codes "TERMINALS            the clock, next transactions, input that is held, EDF"
help_line subject.Command = codes "COMMAND term         the command that is due at the terminal"
help_line subject.Ahead =
    codes "AHEAD term [n]       what the terminal's next turn will do; also AT program line, [FIELDS] AFTER n"
help_line subject.Task = codes "TASK term            the terminal's task, and each of its levels"
help_line subject.Field = codes "FIELD term name [k]  a field of the current level, or of level k"
help_line subject.Fields = codes "FIELDS term [k]      all fields of that level"
help_line subject.Areas = codes "AREAS [term]         all areas of storage, or those of the terminal's task"
help_line subject.Storage = codes "STORAGE aaaaaa n     n bytes of storage from an address on"
help_line subject.Where = codes "WHERE aaaaaa         what is at an address, and whose it is"
help_line subject.Abend =
    codes "ABEND term           the terminal's last abend; also ABEND term STORAGE, ABEND term FIELDS"
help_line subject.Symbol = codes "SYMBOL program name  a symbol of the program's source"
help_line subject.Symbols = codes "SYMBOLS program      all symbols of the program's source"
help_line subject.Xref = codes "XREF program         which lines use its symbols, literals and base registers"
help_line subject.Faults = codes "FAULTS name          and the lines of a source, and /*: its faulty lines"
help_line subject.Orders =
    codes "ORDERS [n]           and keys and looks, and /*: what every order leads to; also TYPED AHEAD"
help_line subject.Choices =
    codes "CHOICES n [states]   and keys and looks, and /*: what every list of n keys leads to; also ONE NUMBER"
help_line subject.Help = codes "HELP [word]          this table, or the line of a word in it"

-- all of them, in the order of the table
abbrev pub subjects : List Subject
subjects =
    subject.Run ∷ subject.Watch ∷ subject.Cover ∷ subject.Covered ∷ subject.Queues ∷ subject.Queue
    ∷ subject.Programs ∷ subject.Tasks ∷ subject.Resources ∷ subject.Terminals ∷ subject.Command ∷ subject.Ahead
    ∷ subject.Task ∷ subject.Field ∷ subject.Fields ∷ subject.Areas ∷ subject.Storage ∷ subject.Where
    ∷ subject.Abend ∷ subject.Symbol ∷ subject.Symbols ∷ subject.Xref ∷ subject.Faults ∷ subject.Orders
    ∷ subject.Choices ∷ subject.Help ∷ []

-- the one that a word begins, which is the first of its line
unfoldable pub subject_of : List ℕ → Option Subject
subject_of text = find (λ s. bytes_eq (word (help_line s)) text) subjects

-- ---- what a line asks
-- a number in decimal digits from 1 to a most
abbrev pub at_most : ℕ → ℕ → Option ℕ
at_most most n = if nat_le 1 n && nat_le n most then Some n else None

unfoldable pub count_up_to : ℕ → List ℕ → Option ℕ
count_up_to most text = option_and_then (at_most most) (number_with_digits 1 5 text)

-- the name of a queue: sixteen hexadecimal digits are its eight bytes
unfoldable pub queue_name_of : List ℕ → Option (List ℕ)
queue_name_of text = if length text == 16 then hex_bytes text else padded_name 8 text

-- a queue, or its item of a number
abbrev pub queue_look : List ℕ → Option (List ℕ) → Option Look
queue_look name None = Some (look.Queue name)
queue_look name (Some text) = option_map (λ n. look.Item name n) (count_up_to 32767 text)

-- the number of a level, 1 to 16, where there is one
abbrev pub level_asked_for : Option (List ℕ) → Option (Option ℕ)
level_asked_for None = Some None
level_asked_for (Some text) = option_map (λ k. Some k) (count_up_to 16 text)

-- a field of a level of a terminal's task
abbrev pub field_look : List ℕ → List ℕ → Option Look
field_look term text =
    option_and_then (λ name. option_map (look.Field term name) (level_asked_for (after_first_blank text)))
    (padded_name 8 (word text))

-- after so many instructions of a turn, 1 to 65,536
abbrev pub count_after : List ℕ → Option ℕ
count_after text =
    if bytes_eq (word text) (codes "AFTER") then option_and_then (count_up_to 65536) (after_first_blank text) else None

-- the next turn of a terminal: where it comes to a line of a program's source; the fields, or the state, after so many
-- of its instructions; or with the last so many of them, 1 to 256; 16 without a number
abbrev pub ahead_look : List ℕ → Option (List ℕ) → Option Look
ahead_look term None = Some (look.Ahead term 16)
ahead_look term (Some text) =
    if bytes_eq (word text) (codes "AT")
    then option_and_then (two_words (look.AheadAt term) (padded_name 8) (count_up_to 99999)) (after_first_blank text)
    else if bytes_eq (word text) (codes "AFTER") then option_map (look.AheadAfter term) (count_after text)
    else if bytes_eq (word text) (codes "FIELDS")
    then option_map (look.FieldsAfter term) (option_and_then count_after (after_first_blank text))
    else option_map (look.Ahead term) (count_up_to 256 text)

-- the last abend of a terminal, its storage, or its fields
abbrev pub abend_look : List ℕ → Option (List ℕ) → Option Look
abend_look name None = Some (look.Abend name)
abend_look name (Some text) =
    if bytes_eq text (codes "STORAGE") then Some (look.AbendStorage name)
    else if bytes_eq text (codes "FIELDS") then Some (look.AbendFields name) else None

-- what was run of a program: a summary, or each of its lines
abbrev pub covered_look : List ℕ → Option (List ℕ) → Option Look
covered_look program None = Some (look.Covered program)
covered_look program (Some text) = if bytes_eq text (codes "LINES") then Some (look.CoveredLines program) else None

-- what is asked of a name, the first word of a text, by the words after it
abbrev pub named_look : (List ℕ → Option (List ℕ)) → (List ℕ → Option (List ℕ) → Option Look) → List ℕ → Option Look
named_look name_of look text = option_and_then (λ name. look name (after_first_blank text)) (name_of (word text))

-- a look by its first word, and by the words after it where there are some
unfoldable pub look_by_word : Subject → Option (List ℕ) → Option Look
look_by_word subject.Storage (Some text) = two_words look.Storage (hex_number 3) (count_up_to 4096) text
look_by_word subject.Where (Some text) = option_map (λ at. look.Where at) (hex_number 3 text)
look_by_word subject.Areas None = Some look.Areas
look_by_word subject.Areas (Some text) = option_map (λ name. look.AreasOf name) (padded_name 4 text)
look_by_word subject.Task (Some text) = option_map (λ name. look.Task name) (padded_name 4 text)
look_by_word subject.Tasks None = Some look.Tasks
look_by_word subject.Abend (Some text) = named_look (padded_name 4) abend_look text
look_by_word subject.Queues None = Some look.Queues
look_by_word subject.Queue (Some text) = named_look queue_name_of queue_look text
look_by_word subject.Resources None = Some look.Resources
look_by_word subject.Programs None = Some look.Programs
look_by_word subject.Command (Some text) = option_map (λ name. look.Command name) (padded_name 4 text)
look_by_word subject.Ahead (Some text) = named_look (padded_name 4) ahead_look text
look_by_word subject.Symbol (Some text) = two_words look.Symbol (padded_name 8) (padded_name 8) text
look_by_word subject.Symbols (Some text) = option_map (λ name. look.Symbols name) (padded_name 8 text)
look_by_word subject.Xref (Some text) = option_map (λ name. look.Xref name) (padded_name 8 text)
look_by_word subject.Terminals None = Some look.Terminals
look_by_word subject.Field (Some text) =
    option_and_then (λ term. option_and_then (field_look term) (after_first_blank text)) (padded_name 4 (word text))
look_by_word subject.Fields (Some text) =
    named_look (padded_name 4) (λ term rest. option_map (look.Fields term) (level_asked_for rest)) text
look_by_word subject.Covered None = Some look.CoveredAll
look_by_word subject.Covered (Some text) = named_look (padded_name 8) covered_look text
look_by_word subject.Help None = Some (look.Help None)
look_by_word subject.Help (Some text) = option_map (λ s. look.Help (Some s)) (subject_of text)
look_by_word _ _ = None

-- What a line looks at; None where it is no look.
unfoldable pub look_of : List ℕ → Option Look
look_of text = option_and_then (λ s. look_by_word s (after_first_blank text)) (subject_of (word text))
