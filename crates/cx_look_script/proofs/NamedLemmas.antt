-- Each terminal of a script has a name that is spelled: its line spells it.
use Rattle.std.proofs.Common.{ℕ, ◌+◌, zero, suc, ◌-◌, Bool, true, false, Option, Some, None, List, [], ◌∷◌, ◌++◌, codes, length, map, nat_le, take}
use Rattle.std.specs.Prelude.{◌&&◌, ⊤, IfSome, Result, Ok, Err, if◌then◌else◌, unwrap_or}
use Rattle.std.specs.Char.{to_ascii_uppercase}
use Rattle.std.specs.List.{AllByRecursion, IsDistinct}
use Rattle.std.specs.Map.{keys_of as names_of}
use Rattle.std.specs.Option.{ok_or, option_and_then, option_map, option_map_or}
use Rattle.std.specs.Result.{result_map_both}
use Rattle.std.specs.Str.{bytes_eq}
use Rattle.cx_asm_build.specs.Prepared.{prepared_of}
use Rattle.cx_asm_build.specs.declared.faults.PrepareFault.{PrepareFault}
use Rattle.cx_asm_build.specs.declared.program.Prepared.{Prepared}
use Rattle.cx_ebcdic.specs.Names.{is_name, padded_name}
use Rattle.cx_look.specs.Looks.{count_up_to, look_of, subject_of}
use Rattle.cx_look.specs.Choices.{choices_asked, choices_block}
use Rattle.cx_look.specs.Orders.{orders_asked, orders_block}
use Rattle.cx_look.specs.declared.look.Look.{Look}
use Rattle.cx_look.specs.declared.look.Subject.{Subject}
use Rattle.cx_look.specs.declared.look.Subject.TheVariants as subject
use Rattle.cx_region_laws.specs.Laws.Alterations.{AlterationsKeepToTheirTask}
use Rattle.cx_region_laws.specs.Laws.Regions.{KeysKeepToTheirTerminal, TurnsKeepToTheirTask}
use Rattle.cx_script.specs.Script.{Script, actions_of, first_place, led_to, script_from, script_in, step_from, stepped}
use Rattle.cx_script.specs.declared.run.Place.{Place}
use Rattle.cx_script_actions.specs.Actions.{line_of}
use Rattle.cx_script_actions.specs.Words.{after_first_blank, word}
use Rattle.cx_script_actions.specs.declared.actions.Action.{Action}
use Rattle.cx_script_actions.specs.declared.actions.Action.TheVariants as edf_action
use Rattle.cx_script_actions.specs.declared.actions.Line.{Line}
use Rattle.cx_script_actions.specs.declared.actions.Line.TheVariants as line
use Rattle.cx_script_actions.specs.declared.actions.NoHeading.{NoHeading}
use Rattle.cx_script_blocks.specs.Blocks.{action_step, block_end, block_step, fault_of_line, step_at, step_in, step_of, with_line}
use Rattle.cx_script_blocks.specs.declared.blocks.Block.{Block}
use Rattle.cx_script_blocks.specs.declared.blocks.Body.{Body}
use Rattle.cx_script_blocks.specs.declared.blocks.Body.TheVariants as kind
use Rattle.cx_script_blocks.specs.declared.blocks.LineStep.{LineStep}
use Rattle.cx_script_blocks.specs.declared.faults.RunFault.{RunFault}
use Rattle.cx_script_blocks.specs.declared.faults.RunFault.TheVariants.{BadLine}
use Rattle.cx_script_io.specs.Lines.{is_too_long, lines_met}
use Rattle.cx_script_io.specs.declared.input.Ending.{Ending}
use Rattle.cx_look_script.specs.Laws.Orders.{HasSpelling}
use Rattle.cx_look_script.specs.Laws.Outcomes.{ScriptsNameTheirTerminals}
use Rattle.cx_look_script.specs.Reading.{as_look_line, asked_by, block_asks, cover_of, line_by, line_of_subject, look_language, look_line_of, own_line, run_of, run_with, stop_asked_for, turns_of, watch_of}
use Rattle.cx_look_script.specs.Runs.{look_actions_of, turns_left}
use Rattle.cx_look_script.specs.State.{fresh_look_state}
use Rattle.cx_look_script.specs.declared.action.Heading.{Heading}
use Rattle.cx_look_script.specs.declared.action.Heading.TheVariants as heading
use Rattle.cx_look_script.specs.declared.action.LookAction.{LookAction}
use Rattle.cx_look_script.specs.declared.action.LookAction.TheVariants as action
use Rattle.cx_look_script.specs.declared.action.Stop.{Stop}
use Rattle.cx_look_script.specs.declared.action.WatchLine.{WatchLine}
use Rattle.cx_look_script.proofs.LineLemmas.{NoName, lines_are}
use Rattle.cx_look_script.proofs.NameLemmas.{AnyName, MayAct, MayAsk, act_too, all_kept, any_asked, distinct_added, spelled_added}

-- ---- a line
abbrev Names : LookAction → Type 0
Names a = MayAsk HasSpelling a

abbrev LineNames : Line LookAction Heading → Type 0
LineNames (line.Action a) = Names a
LineNames _ = ⊤

-- one of `cicsedf`
abbrev EdfLineNames : Line Action NoHeading → Type 0
EdfLineNames (line.Action a) = MayAct HasSpelling a
EdfLineNames _ = ⊤

no_name : (name : List ℕ) → NoName name → HasSpelling name
no_name name none = absurd none

edf_names : (text : List ℕ) → IfSome (line_of text) EdfLineNames
edf_names text =
    lines_are EdfLineNames
    (record {
      blank = tt;
      image = λ name length. tt;
      source = λ name wanted. tt;
      terminal = λ name text spells. record { text = text; spells = spells };
      other = λ a none. act_too NoName HasSpelling no_name a none;
    })
    text

as_names : (l : Line Action NoHeading) → EdfLineNames l → LineNames (as_look_line l)
as_names line.Blank h = tt
as_names (line.Image name stg_len) h = tt
as_names (line.Source name wanted) h = tt
as_names (line.Lines heading) h = elim heading [ ]
as_names (line.Action a) h = h

-- one of `cicslook` asks for a look, for RUN or for WATCH
mapped : {B : Type 0} (f : B → LookAction) (o : Option B) → ((b : B) → Names (f b)) → IfSome (option_map f o) Names
mapped f None h = tt
mapped f (Some b) h = h b

chained : {B : Type 0} (f : B → Option LookAction) (o : Option B) → ((b : B) → IfSome (f b) Names) → IfSome (option_and_then f o) Names
chained f None h = tt
chained f (Some b) h = h b

run_names : (name : List ℕ) (n : ℕ) (rest : Option (List ℕ)) → IfSome (run_with name n rest) Names
run_names name n rest = mapped (λ (s : Stop). action.Run name n s) (stop_asked_for rest) (λ s. tt)

turns_names : (name : List ℕ) (rest : Option (List ℕ)) → IfSome (turns_of name rest) Names
turns_names name None = run_names name 1000 None
turns_names name (Some text) = by (count_up_to 4096 (word text))
  where
    by : (o : Option ℕ) → IfSome (option_map_or (λ n. run_with name n (after_first_blank text)) o (run_with name 1000 (Some text))) Names
    by None = run_names name 1000 (Some text)
    by (Some n) = run_names name n (after_first_blank text)

asked_names : (o : Option LookAction) (number : ℕ) (s : Subject) → IfSome o Names → LineNames (line.Action (unwrap_or o (action.BadLook number s)))
asked_names None number s h = tt
asked_names (Some a) number s h = h

look_names : (o : Option Look) (number : ℕ) (s : Subject) → LineNames (line.Action (unwrap_or (option_map (λ l. action.Look l) o) (action.BadLook number s)))
look_names None number s = tt
look_names (Some l) number s = tt

lines_names : {B : Type 0} (f : B → Line LookAction Heading) (o : Option B) → ((b : B) → LineNames (f b)) → IfSome (option_map f o) LineNames
lines_names f None h = tt
lines_names f (Some b) h = h b

subject_names : (number : ℕ) (read : List ℕ) (s : Subject) → IfSome (line_of_subject number read s) LineNames
subject_names number read subject.Run =
    asked_names (asked_by subject.Run read) number subject.Run
    (chained run_of (after_first_blank read) (λ rest. chained (λ name. turns_of name (after_first_blank rest)) (padded_name 4 (word rest)) (λ name. turns_names name (after_first_blank rest))))
subject_names number read subject.Watch =
    asked_names (asked_by subject.Watch read) number subject.Watch
    (mapped (λ (w : WatchLine). action.Watch w) (option_and_then watch_of (after_first_blank read)) (λ w. tt))
subject_names number read subject.Cover =
    asked_names (asked_by subject.Cover read) number subject.Cover
    (mapped (λ (on : Bool). action.Cover on) (option_and_then cover_of (after_first_blank read)) (λ on. tt))
subject_names number read subject.Faults = lines_names (λ name. line.Lines (heading.Faults name)) (option_and_then (padded_name 8) (after_first_blank read)) (λ name. tt)
subject_names number read subject.Orders = lines_names (λ asked. line.Lines (heading.Orders asked)) (orders_asked (after_first_blank read)) (λ asked. tt)
subject_names number read subject.Choices = lines_names (λ asked. line.Lines (heading.Choices asked)) (choices_asked (after_first_blank read)) (λ asked. tt)
subject_names number read s = look_names (look_of read) number s

own_names : (number : ℕ) (text : List ℕ) → IfSome (own_line number text) LineNames
unfolding own_line
own_names number text = by (nat_le (length text) 4096)
  where
    read : List ℕ
    read = map to_ascii_uppercase text

    of_subject : (o : Option Subject) → IfSome (option_and_then (line_of_subject number read) o) LineNames
    of_subject None = tt
    of_subject (Some s) = subject_names number read s

    by : (b : Bool) → IfSome (if b then option_and_then (line_of_subject number read) (subject_of (word read)) else None) LineNames
    by true = of_subject (subject_of (word read))
    by false = tt

by_names : (l : Option (Line Action NoHeading)) (own : Option (Line LookAction Heading)) → IfSome l EdfLineNames → IfSome own LineNames → IfSome (line_by l own) LineNames
by_names None own h k = k
by_names (Some l) own h k = as_names l h

line_names : (number : ℕ) (text : List ℕ) → IfSome (look_line_of number text) LineNames
unfolding look_line_of
line_names number text = by_names (line_of text) (own_line number text) (edf_names text) (own_names number text)

-- ---- what a line leads to
abbrev StepNames : Result (LineStep LookAction Heading) RunFault → Type 0
StepNames (Ok step) = IfSome step.action Names
StepNames (Err fault) = ⊤

outside : (number : ℕ) (l : Option (Line LookAction Heading)) → IfSome l LineNames → StepNames (ok_or (option_map (step_of number) l) (BadLine number))
outside number None h = tt
outside number (Some line.Blank) h = tt
outside number (Some (line.Image name stg_len)) h = tt
outside number (Some (line.Source name wanted)) h = tt
outside number (Some (line.Lines heading)) h = tt
outside number (Some (line.Action a)) h = h

source_names : (name : List ℕ) (lines : List (List ℕ)) (first : ℕ) (due : Result Prepared PrepareFault)
    → StepNames (result_map_both (λ (made : Prepared). action_step (Some (action.Source name lines (edf_action.Source name made.text made.image)))) (fault_of_line first) due)
source_names name lines first (Ok prepared) = tt
source_names name lines first (Err fault) = tt

block_names : (first : ℕ) (h : Heading) (lines : List (List ℕ)) → IfSome (block_asks first h lines) Names
block_names first (heading.Faults name) lines = tt
block_names first (heading.Orders asked) lines = by (nat_le 1 asked.most)
  where
    by : (b : Bool) → IfSome (if b then Some (action.Orders (orders_block asked lines)) else None) Names
    by true = tt
    by false = tt
block_names first (heading.Choices asked) lines = by (nat_le 1 asked.keys && nat_le 1 asked.most)
  where
    by : (b : Bool) → IfSome (if b then Some (action.Choices (choices_block asked lines)) else None) Names
    by true = tt
    by false = tt

end_names : (first : ℕ) (has : Body Heading) → StepNames (block_end look_language first has)
end_names first (kind.Image name stg_len text) = tt
end_names first (kind.Source name wanted lines) = source_names name lines first (prepared_of wanted.listing wanted.disassembly lines)
end_names first (kind.Lines h lines) = block_names first h lines

more_names : (number : ℕ) (next : Option (Block Heading)) → StepNames (ok_or (option_map block_step next) (BadLine number))
more_names number None = tt
more_names number (Some block) = tt

in_names : (number : ℕ) (block : Option (Block Heading)) (text : List ℕ) → StepNames (step_in look_language number block text)
in_names number None text = outside number (look_line_of number text) (line_names number text)
in_names number (Some block) text = by (bytes_eq text (codes "/*"))
  where
    by : (b : Bool) → StepNames (if b then block_end look_language block.line block.body else ok_or (option_map block_step (with_line look_language block text)) (BadLine number))
    by true = end_names block.line block.body
    by false = more_names number (with_line look_language block text)

step_names : (number : ℕ) (block : Option (Block Heading)) (text : List ℕ) → StepNames (step_at look_language number block text)
unfolding step_at
step_names number block text = by (is_too_long text)
  where
    by : (b : Bool) → StepNames (if b then Err (BadLine number) else step_in look_language number block text)
    by true = tt
    by false = in_names number block text

-- ---- what it asks, one action after another
turns_left_names : (name : List ℕ) (s : Stop) (n : ℕ) → AllByRecursion Names (turns_left name s n)
unfolding turns_left
turns_left_names name s zero = (tt, tt)
turns_left_names name s (suc n) = (tt, turns_left_names name s n)

each_names : (a : LookAction) → Names a → AllByRecursion Names (look_actions_of a)
each_names (action.Script a) h = (h, tt)
each_names (action.Source name lines a) h = (h, tt)
each_names (action.Run name n s) h = (tt, turns_left_names name s (n - 1))
each_names (action.RunOn name n s) h = turns_left_names name s n
each_names (action.Watch w) h = (tt, tt)
each_names (action.Cover on) h = (tt, tt)
each_names (action.Look l) h = (tt, tt)
each_names (action.Orders block) h = (tt, tt)
each_names (action.Choices block) h = (tt, tt)
each_names (action.BadLook number s) h = (tt, tt)

asked_all : (o : Option LookAction) → IfSome o Names → AllByRecursion Names (actions_of look_language o)
asked_all None h = tt
asked_all (Some a) h = each_names a h

both : (one other : List LookAction) → AllByRecursion Names one → AllByRecursion Names other → AllByRecursion Names (one ++ other)
both [] other h k = k
both (a ∷ one) other h k = (h.0, both one other h.1 k)

led_names : (number : ℕ) (place : Place Heading) (due : Result (LineStep LookAction Heading) RunFault) (next : Place Heading → Script LookAction) → StepNames due
    → ((p : Place Heading) → AllByRecursion Names (next p).actions)
    → AllByRecursion Names (led_to (result_map_both (stepped look_language number place) (λ (fault : RunFault). fault) due) next).actions
led_names number place (Err fault) next h more = tt
led_names number place (Ok step) next h more =
    both (actions_of look_language step.action) (next (stepped look_language number place step).place).actions (asked_all step.action h)
    (more (stepped look_language number place step).place)

from_names : (ending : Ending) (number : ℕ) (place : Place Heading) (lines : List (List ℕ)) → AllByRecursion Names (script_from look_language ending number place lines).actions
unfolding script_from step_from
from_names ending number place [] = tt
from_names ending number place (l ∷ lines) =
    led_names number place (step_at look_language number place.block l) (λ next. script_from look_language ending (number + 1) next lines)
    (step_names number place.block l) (λ next. from_names ending (number + 1) next lines)

first_names : (n : ℕ) (actions : List LookAction) → AllByRecursion Names actions → AllByRecursion Names (take n actions)
first_names zero actions h = tt
first_names (suc n) [] h = tt
first_names (suc n) (a ∷ actions) h = (h.0, first_names n actions h.1)

script_names : (ending : Ending) (bytes : List ℕ) → AllByRecursion Names (script_in look_language ending bytes).actions
unfolding script_in
script_names ending bytes = from_names ending 1 first_place (lines_met ending bytes)

-- ---- where they lead
any_all : (actions : List LookAction) → AllByRecursion (λ a. MayAsk AnyName a) actions
any_all [] = tt
any_all (a ∷ actions) = (any_asked a, any_all actions)

none_apart : IsDistinct is_name (names_of fresh_look_state.edf.region.terminals)
unfolding IsDistinct
none_apart = tt

pub scripts_name : TurnsKeepToTheirTask → KeysKeepToTheirTerminal → AlterationsKeepToTheirTask → ScriptsNameTheirTerminals
scripts_name turned keyed altered make state it =
    let actions : List LookAction = take it.count (script_in look_language it.ending it.bytes).actions in
    record {
      spelled = all_kept (λ names. AllByRecursion HasSpelling names) HasSpelling spelled_added turned keyed altered make fresh_look_state state actions it.text
          (first_names it.count (script_in look_language it.ending it.bytes).actions (script_names it.ending it.bytes)) it.led tt;
      apart = all_kept (λ names. IsDistinct is_name names) AnyName distinct_added turned keyed altered make fresh_look_state state actions it.text (any_all actions) it.led none_apart;
    }
