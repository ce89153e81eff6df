-- The lines of a script of ORDERS are read, and ask for the events that its steps are.
use Rattle.std.proofs.Common.{◌≡◌, ℕ, zero, suc, ◌+◌, ◌≤◌, Bool, true, false, true≢false, Option, Some, None, List, [], ◌∷◌, ◌++◌, add-one, codes, length, map, nat_le, arith, ap, refl, sym, subst, ◌∙◌, append-nil, cond, length-append}
use Rattle.std.specs.Prelude.{⊤, drop, if◌then◌else◌, not, option_map, replicate, slice_get, unwrap_or}
use Rattle.std.specs.Char.{is_ascii_digit, to_ascii_uppercase}
use Rattle.std.specs.Fmt.{decimal}
use Rattle.std.specs.List.{AllByRecursion, flat_map, list_all}
use Rattle.std.specs.Map.{keys_of as names_of}
use Rattle.std.specs.Option.{option_and_then, option_map_or}
use Rattle.std.proofs.lemmas.Bool.{le-leb}
use Rattle.std.proofs.lemmas.Grind.{flat_map-append}
use Rattle.std.proofs.lemmas.List.{map-append}
use Rattle.std.proofs.lemmas.List.Elements.{filter-append}
use Rattle.std.proofs.lemmas.Option.{none-some, same_Some}
use Rattle.cx_base.specs.Texts.{shown_name}
use Rattle.cx_ebcdic.specs.Facts.Names.{is_name-decides}
use Rattle.cx_ebcdic.specs.Names.{is_name_character, padded_name}
use Rattle.cx_edf.specs.declared.answers.EdfEvent.{EdfEvent}
use Rattle.cx_edf.specs.declared.answers.EdfEvent.TheVariants as edf_event
use Rattle.cx_region.specs.State.{RegionState, TerminalState}
use Rattle.cx_region.specs.declared.replies.Event.{Event}
use Rattle.cx_region.specs.declared.replies.Event.TheVariants as event
use Rattle.cx_script_actions.specs.Actions.{edf_switch, is_blank_or_comment, line_asked_for, line_of, switch_of}
use Rattle.cx_script_actions.specs.Words.{after_first_blank, word}
use Rattle.cx_script_actions.specs.declared.actions.Action.{Action}
use Rattle.cx_script_actions.specs.declared.actions.Action.TheVariants as edf_action
use Rattle.cx_script_actions.specs.declared.actions.Line.{Line}
use Rattle.cx_script_actions.specs.declared.actions.Line.TheVariants as line
use Rattle.cx_script_actions.specs.declared.actions.NoHeading.{NoHeading}
use Rattle.cx_orders.specs.Facts.Keys.{is_of_terminal, of_terminal}
use Rattle.cx_orders.specs.Moves.{keys_of}
use Rattle.cx_orders.specs.declared.states.KeyLine.{KeyLine}
use Rattle.cx_look.specs.Laws.{IsAskedByItsLine}
use Rattle.cx_look.specs.Looks.{count_up_to, subject_of}
use Rattle.cx_look.specs.declared.look.Subject.TheVariants as subject
use Rattle.cx_look_lines.specs.Words.{Lines, joined_line as words_line, look_line}
use Rattle.cx_look_steps.specs.Laws.{IsStepAsked, IsTurnOf, ScriptsAskForSteps, asked_lines, asked_row, asked_steps, event_at, event_of_step}
use Rattle.cx_look_steps.specs.Incidents.{terminal_name_at}
use Rattle.cx_look_steps.specs.Script.{comment_lines, comments_on, key_at, off_line, script_lines, steps_lines, with_text}
use Rattle.cx_look_steps.specs.declared.steps.Step.{Step}
use Rattle.cx_look_script.specs.Laws.Orders.{AskForEvents, HasSpelling, ScriptsAskForEvents, asked_events, asking_lines}
use Rattle.cx_look_script.specs.Reading.{line_by, line_of_subject, look_line_of, own_line, run_of, run_with, turns_of}
use Rattle.cx_look_script.specs.Runs.{turn_of}
use Rattle.cx_look_script.specs.declared.action.Heading.{Heading}
use Rattle.cx_look_script.specs.declared.action.LookAction.{LookAction}
use Rattle.cx_look_script.specs.declared.action.LookAction.TheVariants as action
use Rattle.cx_look_script.specs.declared.action.Stop.TheVariants as stop
use Rattle.cx_look_script.proofs.SpellingLemmas.{IsShownAs, ShownAsItself, after_alone, after_of, all_digits, all_so, counted, digit_in_word, digit_low, few_digits, is_in_word, name_in_word, name_low, name_shown, upper_all, word_alone, word_of}

-- ---- RUN
-- three words as a line
abbrev three : List ℕ → List ℕ → List ℕ → List ℕ
three first second third = first ++ 32 ∷ (second ++ 32 ∷ third)

three_words : (first second third : List ℕ) → words_line (first ∷ second ∷ third ∷ []) ≡ three first second third
three_words first second third = ap (λ l. first ++ 32 ∷ (second ++ 32 ∷ l)) (append-nil third)

run_asks : (name text digits : List ℕ) (n : ℕ) → padded_name 4 text ≡ Some name → list_all is_in_word text ≡ true → list_all is_in_word digits ≡ true
    → count_up_to 4096 digits ≡ Some n → run_of (text ++ 32 ∷ digits) ≡ Some (action.Run name n stop.Never)
run_asks name text digits n spells one other is =
    ap (λ w. option_and_then (λ nm. turns_of nm (after_first_blank (text ++ 32 ∷ digits))) (padded_name 4 w)) (word_of text digits one)
    ∙ ap (λ rest. option_and_then (λ nm. turns_of nm rest) (padded_name 4 text)) (after_of text digits one)
    ∙ ap (λ o. option_and_then (λ nm. turns_of nm (Some digits)) o) spells
    ∙ ap (λ w. option_map_or (λ k. run_with name k (after_first_blank digits)) (count_up_to 4096 w) (run_with name 1000 (Some digits))) (word_alone digits other)
    ∙ ap (λ o. option_map_or (λ k. run_with name k (after_first_blank digits)) o (run_with name 1000 (Some digits))) is
    ∙ ap (λ rest. run_with name n rest) (after_alone digits other)

-- such a line is none of a script of `cicsedf`
run_is_own : (rest : List ℕ) → line_of (codes "RUN" ++ 32 ∷ rest) ≡ None
unfolding line_of line_asked_for
run_is_own rest =
    ap (λ w. option_and_then (line_asked_for w) (after_first_blank (codes "RUN" ++ 32 ∷ rest))) (word_of (codes "RUN") rest refl)
    ∙ ap (λ o. option_and_then (line_asked_for (codes "RUN")) o) (after_of (codes "RUN") rest refl)

run_upper : (text digits : List ℕ) → list_all is_name_character text ≡ true → list_all is_ascii_digit digits ≡ true
    → map to_ascii_uppercase (three (codes "RUN") text digits) ≡ three (codes "RUN") text digits
run_upper text digits one other =
    ap (λ l. codes "RUN" ++ 32 ∷ l)
    (map-append to_ascii_uppercase text (32 ∷ digits)
    ∙ ap (λ l. l ++ 32 ∷ map to_ascii_uppercase digits) (upper_all is_name_character name_low text one)
    ∙ ap (λ l. text ++ 32 ∷ l) (upper_all is_ascii_digit digit_low digits other))

run_short : (text digits : List ℕ) → length text ≤ 4 → length digits ≤ 5 → nat_le (length (three (codes "RUN") text digits)) 4096 ≡ true
run_short text digits one other =
    le-leb (length (three (codes "RUN") text digits)) 4096 (omega (arith, one, other, length-append text (32 ∷ digits)))

run_subject : subject_of (codes "RUN") ≡ Some subject.Run
unfolding subject_of
run_subject = refl

run_line : (number : ℕ) (name text digits : List ℕ) (n : ℕ) → padded_name 4 text ≡ Some name → IsShownAs text name
    → list_all is_ascii_digit digits ≡ true → length digits ≤ 5 → count_up_to 4096 digits ≡ Some n
    → own_line number (three (codes "RUN") text digits) ≡ Some (line.Action (action.Run name n stop.Never))
unfolding own_line
run_line number name text digits n spells it all few is =
    let whole = three (codes "RUN") text digits in
    let rest = text ++ 32 ∷ digits in
    let from_subject : option_and_then (line_of_subject number whole) (subject_of (word whole)) ≡ Some (line.Action (action.Run name n stop.Never)) =
    ap (λ w. option_and_then (line_of_subject number whole) (subject_of w)) (word_of (codes "RUN") rest refl)
    ∙ ap (λ o. option_and_then (line_of_subject number whole) o) run_subject
    ∙ ap (λ o. line_of_run number (option_and_then run_of o)) (after_of (codes "RUN") rest refl)
    ∙ ap (λ o. line_of_run number o)
    (run_asks name text digits n spells (all_so is_name_character is_in_word name_in_word text it.characters) (all_so is_ascii_digit is_in_word digit_in_word digits all) is) in
    ap (λ read. cond (nat_le (length whole) 4096) (option_and_then (line_of_subject number read) (subject_of (word read))) None)
    (run_upper text digits it.characters all)
    ∙ ap (λ b. cond b (option_and_then (line_of_subject number whole) (subject_of (word whole))) None) (run_short text digits it.few few)
    ∙ from_subject
  where
    line_of_run : ℕ → Option LookAction → Option (Line LookAction Heading)
    line_of_run number asked = Some (line.Action (unwrap_or asked (action.BadLook number subject.Run)))

-- RUN of a name and a number, as it is written, is read as that
run_read : ShownAsItself → (number : ℕ) (name : List ℕ) (n : ℕ) → HasSpelling name → 1 ≤ n → n ≤ 4096
    → look_line_of number (words_line (codes "RUN" ∷ shown_name name ∷ decimal n ∷ [])) ≡ Some (line.Action (action.Run name n stop.Never))
unfolding look_line_of
run_read itself number name n spelled least most =
    let it = name_shown itself spelled.text name spelled.spells in
    let rest = spelled.text ++ 32 ∷ decimal n in
    ap (λ l. line_by (line_of l) (own_line number l)) (ap (λ s. words_line (codes "RUN" ∷ s ∷ decimal n ∷ [])) it.shown ∙ three_words (codes "RUN") spelled.text (decimal n))
    ∙ ap (λ o. line_by o (own_line number (three (codes "RUN") spelled.text (decimal n)))) (run_is_own rest)
    ∙ run_line number name spelled.text (decimal n) n spelled.spells it (all_digits n most) (few_digits n most) (counted n least most)

-- ---- EDF OFF
off_asked : (name text : List ℕ) → padded_name 4 text ≡ Some name → list_all is_in_word text ≡ true
    → line_of (three (codes "EDF") text (codes "OFF")) ≡ Some (line.Action (edf_action.Event (edf_event.Off name)))
unfolding line_of line_asked_for
off_asked name text spells all =
    let rest = text ++ 32 ∷ codes "OFF" in
    ap (λ w. option_and_then (line_asked_for w) (after_first_blank (codes "EDF" ++ 32 ∷ rest))) (word_of (codes "EDF") rest refl)
    ∙ ap (λ o. option_and_then (line_asked_for (codes "EDF")) o) (after_of (codes "EDF") rest refl)
    ∙ ap (λ w. option_and_then (λ a. option_map (edf_switch a) (option_and_then switch_of (after_first_blank rest))) (padded_name 4 w)) (word_of text (codes "OFF") all)
    ∙ ap (λ o. option_and_then (λ a. option_map (edf_switch a) (option_and_then switch_of (after_first_blank rest))) o) spells
    ∙ ap (λ o. option_map (edf_switch name) (option_and_then switch_of o)) (after_of text (codes "OFF") all)

off_read : ShownAsItself → (number : ℕ) (name : List ℕ) → HasSpelling name
    → look_line_of number (words_line (codes "EDF" ∷ shown_name name ∷ codes "OFF" ∷ []))
    ≡ Some (line.Action (action.Script (edf_action.Event (edf_event.Off name))))
unfolding look_line_of
off_read itself number name spelled =
    let it = name_shown itself spelled.text name spelled.spells in
    let whole = three (codes "EDF") spelled.text (codes "OFF") in
    ap (λ l. line_by (line_of l) (own_line number l)) (ap (λ s. words_line (codes "EDF" ∷ s ∷ codes "OFF" ∷ [])) it.shown ∙ three_words (codes "EDF") spelled.text (codes "OFF"))
    ∙ ap (λ o. line_by o (own_line number whole))
    (off_asked name spelled.text spelled.spells (all_so is_name_character is_in_word name_in_word spelled.text it.characters))

-- ---- a key's line
key_read : (number : ℕ) (key : KeyLine) → IsAskedByItsLine key
    → look_line_of number key.line ≡ Some (line.Action (action.Script (edf_action.Event (edf_event.Plain (event.Key key.name key.aid key.bytes)))))
unfolding look_line_of
key_read number key is = ap (λ o. line_by o (own_line number key.line)) is

-- which is no comment
abbrev is_blank : Option (Line Action NoHeading) → Bool
is_blank (Some line.Blank) = true
is_blank asked = false

asking_by : (b : Bool) (asked : Option (Line Action NoHeading)) (a : Action) → (if b then Some line.Blank else asked) ≡ Some (line.Action a) → b ≡ false
asking_by false asked a is = refl
asking_by true asked a is = absurd (true≢false (ap is_blank is))

key_asking : (key : KeyLine) → IsAskedByItsLine key → is_blank_or_comment key.line ≡ false
unfolding line_of
key_asking key is =
    asking_by (is_blank_or_comment key.line) (option_and_then (line_asked_for (word key.line)) (after_first_blank key.line))
    (edf_action.Event (edf_event.Plain (event.Key key.name key.aid key.bytes))) is

-- ---- lines one after another
-- an action that asks for an event, or for turns of a terminal
abbrev pub IsAsking : LookAction → Type 0
IsAsking (action.Script (edf_action.Event e)) = ⊤
IsAsking (action.Run name n stop.Never) = 1 ≤ n
IsAsking _ = ⊥

pub record Asks (lines : Lines) (events : List EdfEvent) : Type 0 where
  pub asked : AskForEvents lines events
  pub each : AllByRecursion IsAsking asked.actions

ask_nothing : Asks [] []
ask_nothing = record { asked = record { actions = []; read = λ number. refl; ask = refl }; each = tt }

ask_one : (l : List ℕ) (a : LookAction) → IsAsking a → is_blank_or_comment l ≡ false → ((number : ℕ) → look_line_of number l ≡ Some (line.Action a)) → Asks (l ∷ []) (asked_events a)
ask_one l a asking plain read =
    record {
      asked = record {
        actions = a ∷ [];
        read = λ number. ap (λ b. map (look_line_of number) (cond (not b) (l ∷ []) [])) plain ∙ ap (λ o. o ∷ []) (read number);
        ask = append-nil (asked_events a);
      };
      each = (asking, tt);
    }

-- a comment asks for nothing
ask_on : (rest : List ℕ) (lines : Lines) (events : List EdfEvent) → Asks lines events → Asks ((42 ∷ rest) ∷ lines) events
ask_on rest lines events p = record { asked = record { actions = p.asked.actions; read = p.asked.read; ask = p.asked.ask }; each = p.each }

asking_both : (one other : List LookAction) → AllByRecursion IsAsking one → AllByRecursion IsAsking other → AllByRecursion IsAsking (one ++ other)
asking_both [] other h k = k
asking_both (a ∷ one) other h k = (h.0, asking_both one other h.1 k)

ask_both : (ones others : Lines) (es fs : List EdfEvent) → Asks ones es → Asks others fs → Asks (ones ++ others) (es ++ fs)
ask_both ones others es fs p q =
    let one : List LookAction = p.asked.actions in
    let other : List LookAction = q.asked.actions in
    record {
      asked = record {
        actions = one ++ other;
        read = λ number.
            ap (λ ls. map (look_line_of number) ls) (filter-append (λ l. not (is_blank_or_comment l)) ones others)
            ∙ map-append (look_line_of number) (asking_lines ones) (asking_lines others)
            ∙ ap (λ l. l ++ map (look_line_of number) (asking_lines others)) (p.asked.read number)
            ∙ ap (λ l. map (λ (a : LookAction). Some (line.Action a)) one ++ l) (q.asked.read number)
            ∙ sym (map-append (λ (a : LookAction). Some (line.Action a)) one other);
        ask = flat_map-append asked_events one other ∙ ap (λ l. l ++ flat_map asked_events other) p.asked.ask ∙ ap (λ l. es ++ l) q.asked.ask;
      };
      each = asking_both one other p.each q.each;
    }

-- EDF OFF of each
offs_ask : ShownAsItself → (edf : List (List ℕ)) → AllByRecursion HasSpelling edf → Asks (flat_map off_line edf) (map edf_event.Off edf)
offs_ask itself [] all = ask_nothing
offs_ask itself (name ∷ edf) all =
    ask_both (off_line name) (flat_map off_line edf) (edf_event.Off name ∷ []) (map edf_event.Off edf)
    (ask_one (words_line (codes "EDF" ∷ shown_name name ∷ codes "OFF" ∷ [])) (action.Script (edf_action.Event (edf_event.Off name))) tt refl (λ number. off_read itself number name all.0))
    (offs_ask itself edf all.1)

-- comments
comments_ask : (rest : List ℕ) (texts : List (List ℕ)) → Asks (comments_on (42 ∷ rest) texts) []
unfolding comments_on
comments_ask rest [] = ask_on rest [] [] ask_nothing
comments_ask rest (text ∷ texts) =
    by (nat_le (length (with_text (42 ∷ rest) text)) 100) (comments_ask (rest ++ codes ", " ++ text) texts) (comments_ask (32 ∷ text) texts)
  where
    by : (b : Bool) → Asks (comments_on (42 ∷ (rest ++ codes ", " ++ text)) texts) [] → Asks (comments_on (42 ∷ 32 ∷ text) texts) []
        → Asks (if b then comments_on (42 ∷ (rest ++ codes ", " ++ text)) texts else (42 ∷ rest) ∷ comments_on (42 ∷ 32 ∷ text) texts) []
    by true longer other = longer
    by false longer other = ask_on rest (comments_on (42 ∷ 32 ∷ text) texts) [] other

all_comments : (texts : List (List ℕ)) → Asks (comment_lines texts) []
all_comments [] = ask_nothing
all_comments (text ∷ texts) = comments_ask (32 ∷ text) texts

-- ---- steps
abbrev step_of : ℕ → Option ℕ → Option (List ℕ) → Step
step_of number key told = record { number = number; key = key; told = told }

-- the name of the terminal with that number, and that a text spells it
record IsTerminal (region : RegionState) (number : ℕ) (name : List ℕ) : Type 0 where
  shown : terminal_name_at region number ≡ shown_name name
  spelled : HasSpelling name
  keys : (keys : List KeyLine) (came : ℕ) → key_at region keys number came ≡ slice_get (keys_of keys name) came

terminal_at : (terminals : List (List ℕ × TerminalState)) (number : ℕ) (name : List ℕ) → AllByRecursion HasSpelling (names_of terminals)
    → slice_get (names_of terminals) number ≡ Some name
    → (terminal : TerminalState) × ((slice_get terminals number ≡ Some (name, terminal)) × HasSpelling name)
terminal_at [] number name all at = absurd (none-some name at)
terminal_at (t ∷ terminals) zero name all at =
    let same = same_Some t.0 name at in
    (t.1, (ap (λ (n : List ℕ). Some (n, t.1)) same, subst HasSpelling same all.0))
terminal_at (t ∷ terminals) (suc number) name all at = terminal_at terminals number name all.1 at

terminal_of : (region : RegionState) (number : ℕ) (name : List ℕ) → AllByRecursion HasSpelling (names_of region.terminals)
    → slice_get (names_of region.terminals) number ≡ Some name → IsTerminal region number name
terminal_of region number name all at =
    let it = terminal_at region.terminals number name all at in
    record {
      shown = ap (λ (o : Option (List ℕ × TerminalState)). option_map_or (λ entry. shown_name entry.0) o []) it.1.0;
      spelled = it.1.1;
      keys = λ keys came. ap (λ (o : Option (List ℕ × TerminalState)). option_and_then (λ entry. slice_get (keys_of keys entry.0) came) o) it.1.0;
    }

-- the event of each of so many steps, one after another
record SplitsOff (f : Step → Option Event) (step : Step) (many : ℕ) (rest : List Step) (events : List Event) : Type 0 where
  what : Event
  is : f step ≡ Some what
  others : List Event
  left : map f rest ≡ map Some others
  whole : events ≡ replicate many what ++ others

first_event : (f : Step → Option Event) (step : Step) (steps : List Step) (events : List Event) → map f (step ∷ steps) ≡ map Some events
    → SplitsOff f step 1 steps events
first_event f step steps [] e = absurd (none-some (f step) (sym (ap (λ l. slice_get l 0) e)))
first_event f step steps (what ∷ events) e =
    record {
      what = what;
      is = same_Some (f step) (Some what) (ap (λ l. slice_get l 0) e);
      others = events;
      left = ap (λ l. drop 1 l) e;
      whole = refl;
    }

split_off : (f : Step → Option Event) (o : Option Event) (step : Step) (others rest : List Step) (events : List Event) → f step ≡ o
    → AllByRecursion (λ s. f s ≡ o) others → map f (step ∷ (others ++ rest)) ≡ map Some events → SplitsOff f step (suc (length others)) rest events
split_off f o step [] rest events first all e = first_event f step rest events e
split_off f o step (other ∷ others) rest events first all e =
    let one = first_event f step (other ∷ (others ++ rest)) events e in
    let more = split_off f o other others rest one.others all.0 all.1 one.left in
    let same = same_Some more.what one.what (sym more.is ∙ all.0 ∙ sym first ∙ one.is) in
    record {
      what = one.what;
      is = one.is;
      others = more.others;
      left = more.left;
      whole = one.whole ∙ ap (λ l. one.what ∷ l) (more.whole ∙ ap (λ w. replicate (suc (length others)) w ++ more.others) same);
    }

plains : (many : ℕ) (e : Event) → replicate many (edf_event.Plain e) ≡ map edf_event.Plain (replicate many e)
plains zero e = refl
plains (suc many) e = ap (λ l. edf_event.Plain e ∷ l) (plains many e)

module _ (itself : ShownAsItself) (region : RegionState) (keys : List KeyLine) (all : AllByRecursion HasSpelling (names_of region.terminals))
    (read : AllByRecursion IsAskedByItsLine keys) where
  abbrev names : List (List ℕ)
  names = names_of region.terminals

  -- the line of a key
  key_asks : (number came : ℕ) (name : List ℕ) (what : Event) → IsTerminal region number name → event_at keys name (Some came) ≡ Some what
      → Asks (option_map_or (λ (key : KeyLine). key.line ∷ []) (key_at region keys number came) []) (edf_event.Plain what ∷ [])
  key_asks number came name what it is =
      subst (λ (o : Option KeyLine). Asks (option_map_or (λ (key : KeyLine). key.line ∷ []) o []) (edf_event.Plain what ∷ [])) (sym (it.keys keys came))
      (by (slice_get (keys_of keys name) came) refl is)
    where
      by : (found : Option KeyLine) → slice_get (keys_of keys name) came ≡ found
          → option_map (λ (key : KeyLine). event.Key name key.aid key.bytes) found ≡ Some what
          → Asks (option_map_or (λ (key : KeyLine). key.line ∷ []) found []) (edf_event.Plain what ∷ [])
      by None at is = absurd (none-some what is)
      by (Some key) at is =
          let own : key.name ≡ name = (is_name-decides key.name name).0 (is_of_terminal name key keys came at) in
          let same = ap (λ n. event.Key n key.aid key.bytes) own ∙ same_Some (event.Key name key.aid key.bytes) what is in
          subst (λ e. Asks (key.line ∷ []) (edf_event.Plain e ∷ [])) same
          (ask_one key.line (action.Script (edf_action.Event (edf_event.Plain (event.Key key.name key.aid key.bytes)))) tt
          (key_asking key (of_terminal IsAskedByItsLine name key keys came read at))
          (λ number. key_read number key (of_terminal IsAskedByItsLine name key keys came read at)))

  -- the line of so many turns, and what is told of them
  abbrev run_lines : ℕ → ℕ → Lines
  run_lines number many = look_line (codes "RUN" ∷ terminal_name_at region number ∷ decimal many ∷ [])

  turns_ask : (number many : ℕ) (told : List (List ℕ)) (name : List ℕ) → IsTerminal region number name → 1 ≤ many → many ≤ 4096
      → Asks (run_lines number many ++ comment_lines told) (map edf_event.Plain (replicate many (event.Turn name)))
  turns_ask number many told name it least most =
      let one : Asks (run_lines number many) (map edf_event.Plain (replicate many (event.Turn name))) =
      subst (λ es. Asks (run_lines number many) es) (plains many (event.Turn name))
      (subst (λ s. Asks (look_line (codes "RUN" ∷ s ∷ decimal many ∷ [])) (replicate many (turn_of name))) (sym it.shown)
      (ask_one (words_line (codes "RUN" ∷ shown_name name ∷ decimal many ∷ [])) (action.Run name many stop.Never) least refl
      (λ at. run_read itself at name many it.spelled least most))) in
      subst (λ es. Asks (run_lines number many ++ comment_lines told) es) (append-nil (map edf_event.Plain (replicate many (event.Turn name))))
      (ask_both (run_lines number many) (comment_lines told) (map edf_event.Plain (replicate many (event.Turn name))) [] one (all_comments told))

  abbrev turn_at : ℕ → Option Event
  turn_at number = option_and_then (λ n. event_at keys n None) (slice_get names number)

  turns_named : (number many : ℕ) (told : List (List ℕ)) (what : Event) (name : Option (List ℕ)) → 1 ≤ many → many ≤ 4096
      → slice_get names number ≡ name → option_and_then (λ n. event_at keys n None) name ≡ Some what
      → Asks (run_lines number many ++ comment_lines told) (map edf_event.Plain (replicate many what))
  turns_named number many told what None least most at is = absurd (none-some what is)
  turns_named number many told what (Some name) least most at is =
      subst (λ e. Asks (run_lines number many ++ comment_lines told) (map edf_event.Plain (replicate many e))) (same_Some (event.Turn name) what is)
      (turns_ask number many told name (terminal_of region number name all at) least most)

  key_named : (number came : ℕ) (what : Event) (name : Option (List ℕ)) → slice_get names number ≡ name
      → option_and_then (λ n. event_at keys n (Some came)) name ≡ Some what
      → Asks (option_map_or (λ (key : KeyLine). key.line ∷ []) (key_at region keys number came) []) (edf_event.Plain what ∷ [])
  key_named number came what None at is = absurd (none-some what is)
  key_named number came what (Some name) at is = key_asks number came name what (terminal_of region number name all at) is

  -- turns of one terminal are one event
  one_event : (number : ℕ) (others : List Step) → AllByRecursion (IsTurnOf number) others
      → AllByRecursion (λ s. event_of_step names keys s ≡ turn_at number) others
  one_event number [] each = tt
  one_event number (other ∷ others) each = (
    ap (λ k. option_and_then (λ n. event_at keys n k) (slice_get names other.number)) each.0.1
        ∙ ap (λ k. option_and_then (λ n. event_at keys n None) (slice_get names k)) each.0.0,
    one_event number others each.1,
  )

  abbrev AllAsk : List (Step × List Step) → Type 0
  AllAsk asked = (events : List Event) → map (event_of_step names keys) (flat_map asked_steps asked) ≡ map Some events
      → Asks (flat_map (asked_lines region keys) asked) (map edf_event.Plain events)

  one_asks : (number : ℕ) (key : Option ℕ) (told : Option (List ℕ)) (others : List Step) (asked : List (Step × List Step)) (events : List Event)
      → IsStepAsked (step_of number key told, others) → AllAsk asked
      → map (event_of_step names keys) (step_of number key told ∷ (others ++ flat_map asked_steps asked)) ≡ map Some events
      → Asks (asked_lines region keys (step_of number key told, others) ++ flat_map (asked_lines region keys) asked) (map edf_event.Plain events)
  one_asks number None told others asked events few more e =
      let step = step_of number None told in
      let texts = (asked_row (step, others)).told in
      let it = subst (λ n. SplitsOff (event_of_step names keys) step n (flat_map asked_steps asked) events) (sym (add-one (length others)))
      (split_off (event_of_step names keys) (turn_at number) step others (flat_map asked_steps asked) events refl (one_event number others few.0) e) in
      let many = length others + 1 in
      subst (λ es. Asks ((run_lines number many ++ comment_lines texts) ++ flat_map (asked_lines region keys) asked) es)
      (sym (ap (λ es. map edf_event.Plain es) it.whole ∙ map-append edf_event.Plain (replicate many it.what) it.others))
      (ask_both (run_lines number many ++ comment_lines texts) (flat_map (asked_lines region keys) asked) (map edf_event.Plain (replicate many it.what))
      (map edf_event.Plain it.others)
      (turns_named number many texts it.what (slice_get names number) (omega arith) (omega (arith, few.1)) refl it.is) (more it.others it.left))
  one_asks number (Some came) told others asked events few more e =
      let step = step_of number (Some came) told in
      let lines = option_map_or (λ (key : KeyLine). key.line ∷ []) (key_at region keys number came) [] in
      let it = first_event (event_of_step names keys) step (flat_map asked_steps asked) events
      (subst (λ os. map (event_of_step names keys) (step ∷ (os ++ flat_map asked_steps asked)) ≡ map Some events) few e) in
      subst (λ es. Asks (lines ++ flat_map (asked_lines region keys) asked) es) (sym (ap (λ es. map edf_event.Plain es) it.whole))
      (ask_both lines (flat_map (asked_lines region keys) asked) (edf_event.Plain it.what ∷ []) (map edf_event.Plain it.others)
      (key_named number came it.what (slice_get names number) refl it.is) (more it.others it.left))

  all_ask : (asked : List (Step × List Step)) → AllByRecursion IsStepAsked asked → AllAsk asked
  all_ask [] each [] e = ask_nothing
  all_ask [] each (what ∷ events) e = absurd (none-some (Some what) (ap (λ l. slice_get l 0) e))
  all_ask ((step, others) ∷ asked) each events e =
      one_asks step.number step.key step.told others asked events each.0 (all_ask asked each.1) e

-- the lines of a script
pub scripts_asks : ShownAsItself → ScriptsAskForSteps → (region : RegionState) (keys : List KeyLine) (edf : List (List ℕ)) (steps : List Step) (events : List Event)
    → AllByRecursion HasSpelling (names_of region.terminals) → AllByRecursion HasSpelling edf → AllByRecursion IsAskedByItsLine keys
    → map (event_of_step (names_of region.terminals) keys) steps ≡ map Some events
    → Asks (script_lines region keys edf steps) (map edf_event.Off edf ++ map edf_event.Plain events)
unfolding script_lines
scripts_asks itself scripts region keys edf steps events all offs read are =
    let it = scripts region keys steps in
    let lines = all_ask itself region keys all read it.asked it.each events (ap (λ ss. map (event_of_step (names_of region.terminals) keys) ss) it.done ∙ are) in
    ask_both (flat_map off_line edf) (steps_lines region keys None steps) (map edf_event.Off edf) (map edf_event.Plain events) (offs_ask itself edf offs)
    (subst (λ ls. Asks ls (map edf_event.Plain events)) (sym it.written) lines)

pub scripts_ask : ShownAsItself → ScriptsAskForSteps → ScriptsAskForEvents
scripts_ask itself scripts region keys edf steps events all offs read are = (scripts_asks itself scripts region keys edf steps events all offs read are).asked
