-- What a line of a script with looks asks (own).
use Rattle.std.specs.Prelude.{ℕ, ◌&&◌, Bool, true, false, nat_le, if◌then◌else◌, Option, Some, None, unwrap_or, List, [], ◌∷◌, ◌++◌, length, map, codes}
use Rattle.std.specs.Option.{option_and_then, option_map, option_map_or, option_or}
use Rattle.std.specs.Str.{bytes_eq}
use Rattle.std.specs.Char.{to_ascii_uppercase}
use Rattle.cx_ebcdic.specs.Names.{padded_name}
use Rattle.cx_script_actions.specs.Alterations.{hex_number}
use Rattle.cx_script_actions.specs.Words.{after_first_blank, two_words, word}
use Rattle.cx_script_actions.specs.Actions.{line_of}
use Rattle.cx_script_actions.specs.Language.{Language}
use Rattle.cx_script_actions.specs.declared.actions.Action.{Action}
use Rattle.cx_script_actions.specs.declared.actions.Line.{Line}
use Rattle.cx_script_actions.specs.declared.actions.Line.TheVariants as line
use Rattle.cx_script_actions.specs.declared.actions.NoHeading.{NoHeading}
use Rattle.cx_script_blocks.specs.Blocks.{kept_lines}
use Rattle.cx_look.specs.Choices.{choices_asked, choices_block, choices_with}
use Rattle.cx_look.specs.Orders.{orders_asked, orders_block, orders_with}
use Rattle.cx_look.specs.Looks.{count_up_to, look_of, subject_of}
use Rattle.cx_look.specs.declared.look.Look.TheVariants as look
use Rattle.cx_look.specs.declared.look.Subject.{Subject}
use Rattle.cx_look.specs.declared.look.Subject.TheVariants as subject
use Rattle.cx_look_ahead.specs.declared.arrivals.SourceLine.{SourceLine}
use Rattle.cx_look_script.specs.Runs.{look_actions_of}
use Rattle.cx_look_script.specs.declared.action.Heading.{Heading}
use Rattle.cx_look_script.specs.declared.action.Heading.TheVariants as heading
use Rattle.cx_look_script.specs.declared.action.LookAction.{LookAction}
use Rattle.cx_look_script.specs.declared.action.LookAction.TheVariants as action
use Rattle.cx_look_script.specs.declared.action.Stop.{Stop}
use Rattle.cx_look_script.specs.declared.action.Stop.TheVariants as stop
use Rattle.cx_look_script.specs.declared.action.WatchLine.{WatchLine}
use Rattle.cx_look_script.specs.declared.action.WatchLine.TheVariants as watch

-- ---- what ends a RUN in front of a turn, by the words after its number
-- a line of a program's source: the program's name and the line's number
abbrev pub source_line_of : List ℕ → Option SourceLine
source_line_of text =
    two_words (λ program line. let it : SourceLine = record { program = program; line = line } in it) (padded_name 8)
    (count_up_to 99999) text

abbrev pub stop_at_line : List ℕ → Option Stop
stop_at_line text =
    if bytes_eq (word text) (codes "TO")
    then option_map (λ line. stop.BeforeLine line) (option_and_then source_line_of (after_first_blank text)) else None

abbrev pub stop_asked_for : Option (List ℕ) → Option Stop
stop_asked_for None = Some stop.Never
stop_asked_for (Some text) = if bytes_eq text (codes "BEFORE ABEND") then Some stop.BeforeAbend else stop_at_line text

abbrev pub run_with : List ℕ → ℕ → Option (List ℕ) → Option LookAction
run_with name n rest = option_map (λ s. action.Run name n s) (stop_asked_for rest)

-- RUN of a terminal: at most as many turns as the number after it says, 1,000 where there is none
abbrev pub turns_of : List ℕ → Option (List ℕ) → Option LookAction
turns_of name None = run_with name 1000 None
turns_of name (Some text) =
    option_map_or (λ n. run_with name n (after_first_blank text)) (count_up_to 4096 (word text))
    (run_with name 1000 (Some text))

abbrev pub run_of : List ℕ → Option LookAction
run_of text = option_and_then (λ name. turns_of name (after_first_blank text)) (padded_name 4 (word text))

-- WATCH: at most 256 bytes from an address on; a field of a terminal's task; or nothing any more
abbrev pub watched_range : List ℕ → Option WatchLine
watched_range text = two_words watch.Range (hex_number 3) (count_up_to 256) text

abbrev pub watched_field : List ℕ → Option WatchLine
watched_field text = two_words watch.Field (padded_name 4) (padded_name 8) text

abbrev pub watch_of : List ℕ → Option WatchLine
watch_of text =
    if bytes_eq text (codes "OFF") then Some watch.Off else option_or (watched_range text) (watched_field text)

-- COVER: to count what is run from here on, or no more
abbrev pub cover_of : List ℕ → Option Bool
cover_of text =
    if bytes_eq text (codes "ON") then Some true else (if bytes_eq text (codes "OFF") then Some false else None)

-- what a line asks that begins with one of these words, where it is as it should be
abbrev pub asked_by : Subject → List ℕ → Option LookAction
asked_by subject.Run text = option_and_then run_of (after_first_blank text)
asked_by subject.Watch text = option_map (λ w. action.Watch w) (option_and_then watch_of (after_first_blank text))
asked_by subject.Cover text = option_map (λ on. action.Cover on) (option_and_then cover_of (after_first_blank text))
asked_by _ text = option_map (λ l. action.Look l) (look_of text)

-- the line that begins a block of FAULTS
abbrev pub faults_line : List ℕ → Option (Line LookAction Heading)
faults_line text =
    option_map (λ name. line.Lines (heading.Faults name)) (option_and_then (padded_name 8) (after_first_blank text))

-- the line that begins a block of ORDERS
abbrev pub orders_line : List ℕ → Option (Line LookAction Heading)
orders_line text = option_map (λ asked. line.Lines (heading.Orders asked)) (orders_asked (after_first_blank text))

-- and one of CHOICES
abbrev pub choices_line : List ℕ → Option (Line LookAction Heading)
choices_line text =
    option_map (λ asked. line.Lines (heading.Choices asked)) (choices_asked (after_first_blank text))

-- Such a line; RUN or a look; or a bad look, which is reported.
abbrev pub line_of_subject : ℕ → List ℕ → Subject → Option (Line LookAction Heading)
line_of_subject number text subject.Faults = faults_line text
line_of_subject number text subject.Orders = orders_line text
line_of_subject number text subject.Choices = choices_line text
line_of_subject number text s = Some (line.Action (unwrap_or (asked_by s text) (action.BadLook number s)))

-- What a line asks that begins with one of the words that no script of `cicsedf` has. Lower case is taken as upper
-- case. A line of more than 4,096 bytes is a bad line.
unfoldable pub own_line : ℕ → List ℕ → Option (Line LookAction Heading)
own_line number text =
    let read = map to_ascii_uppercase text in
    if nat_le (length text) 4096 then option_and_then (line_of_subject number read) (subject_of (word read)) else None

-- a line of `cicsedf`'s scripts as one of these
abbrev pub as_look_line : Line Action NoHeading → Line LookAction Heading
as_look_line line.Blank = line.Blank
as_look_line (line.Image name stg_len) = line.Image name stg_len
as_look_line (line.Source name wanted) = line.Source name wanted
as_look_line (line.Lines heading) = elim heading [ ]
as_look_line (line.Action a) = line.Action (action.Script a)

abbrev pub line_by : Option (Line Action NoHeading) → Option (Line LookAction Heading)
    → Option (Line LookAction Heading)
line_by (Some l) own = Some (as_look_line l)
line_by None own = own

-- A line asks what it asks in a script of `cicsedf`; where it is a bad line there, it may be RUN, FAULTS or a look.
unfoldable pub look_line_of : ℕ → List ℕ → Option (Line LookAction Heading)
look_line_of number text = line_by (line_of text) (own_line number text)

-- the lines of a block with one more: one of FAULTS may have any, of which the first 10,001 are kept
abbrev pub block_with : Heading → List (List ℕ) → List ℕ → Option (List (List ℕ))
block_with (heading.Faults name) lines text = Some (kept_lines (lines ++ text ∷ []))
block_with (heading.Orders asked) lines text = orders_with lines text
block_with (heading.Choices asked) lines text = choices_with lines text

-- what the end of a block asks: by the number of the line that begins it, what this says, and the lines
abbrev pub block_asks : ℕ → Heading → List (List ℕ) → Option LookAction
block_asks first (heading.Faults name) lines =
    Some (action.Look (look.Faults (record { first = first; name = name; lines = lines })))
block_asks first (heading.Orders asked) lines =
    if nat_le 1 asked.most then Some (action.Orders (orders_block asked lines)) else None
block_asks first (heading.Choices asked) lines =
    if nat_le 1 asked.keys && nat_le 1 asked.most then Some (action.Choices (choices_block asked lines)) else None

-- a bad look is a fault, with which a script goes on
abbrev pub is_deferred_fault : LookAction → Bool
is_deferred_fault (action.BadLook number s) = true
is_deferred_fault _ = false

-- the language of `cicslook`
abbrev pub look_language : Language LookAction Heading
look_language = record {
  line_of = look_line_of;
  of_block = λ a. action.Script a;
  of_source = λ name lines a. action.Source name lines a;
  with_line = block_with;
  of_lines = block_asks;
  actions_of = look_actions_of;
  is_deferred_fault = is_deferred_fault;
}
