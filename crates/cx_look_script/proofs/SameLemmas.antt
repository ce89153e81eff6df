-- A script of `cicsedf` is one of `cicslook`, and does the same.
use Rattle.std.proofs.Common.{◌≡◌, ℕ, ◌+◌, Bool, true, false, Option, Some, None, List, [], ◌∷◌, ◌++◌, codes, map, unwrap_or, refl, sym, ap, ◌∙◌, subst}
use Rattle.std.specs.Prelude.{Result, Ok, Err, if◌then◌else◌}
use Rattle.std.specs.Option.{ok_or, option_map, option_map_or, option_or}
use Rattle.std.specs.Result.{result_map_both}
use Rattle.std.specs.Str.{bytes_eq}
use Rattle.cx_script_actions.specs.Actions.{line_of}
use Rattle.cx_script_actions.specs.Effects.{Performs}
use Rattle.cx_script_actions.specs.Language.{Language, edf_language}
use Rattle.cx_script_actions.specs.Words.{hex_bytes}
use Rattle.cx_script_actions.specs.declared.actions.Action.{Action}
use Rattle.cx_script_actions.specs.declared.actions.Action.TheVariants as script
use Rattle.cx_script_actions.specs.declared.actions.Line.{Line}
use Rattle.cx_script_actions.specs.declared.actions.Line.TheVariants as line
use Rattle.cx_script_actions.specs.declared.actions.NoHeading.{NoHeading}
use Rattle.cx_script_blocks.specs.Blocks.{body_with, block_step, action_step, block_end, fault_of_line, kept_text, step_at, step_in, step_of, with_line}
use Rattle.cx_script_blocks.specs.declared.blocks.Block.{Block}
use Rattle.cx_script_blocks.specs.declared.blocks.Body.{Body}
use Rattle.cx_script_blocks.specs.declared.blocks.Body.TheVariants as kind
use Rattle.cx_script_blocks.specs.declared.blocks.LineStep.{LineStep}
use Rattle.cx_script_blocks.specs.declared.faults.RunFault.{RunFault}
use Rattle.cx_script_blocks.specs.declared.faults.RunFault.TheVariants.{BadLine}
use Rattle.cx_script_io.specs.Lines.{is_too_long, lines_met}
use Rattle.cx_script_io.specs.declared.input.Ending.{Ending}
use Rattle.cx_script_io.specs.declared.input.Ending.TheVariants.{AtEnd, Failed, PastBound}
use Rattle.cx_asm_build.specs.Prepared.{prepared_of}
use Rattle.cx_asm_build.specs.declared.faults.PrepareFault.{PrepareFault}
use Rattle.cx_asm_build.specs.declared.program.Prepared.{Prepared}
use Rattle.cx_edf.specs.State.{EdfState}
use Rattle.cx_edf.specs.Steps.{DisplayMaker}
use Rattle.cx_script.specs.Script.{Script, Step, actions_of, end_fault, fault_at_ending, first_place, stepped, step_from, led_to, script_from, script_in}
use Rattle.cx_script.specs.declared.run.Place.{Place}
use Rattle.cx_script.specs.Transcript.{PerformsAll}
use Rattle.cx_look_script.specs.Laws.Scripts.{ActionsStay, ArePlainActions, HasNoBadLine, IsSame, ScriptsStay, plain_action}
use Rattle.cx_look_script.specs.Laws.Watches.{is_watch}
use Rattle.cx_look_script.specs.Looking.{Acts, LookPerforms}
use Rattle.cx_look_script.specs.State.{LookState}
use Rattle.cx_look_script.specs.Watched.{cause_of}
use Rattle.cx_look_script.proofs.LawLemmas.{performs}
use Rattle.cx_look_script.proofs.WatchLawLemmas.{watches_stay}
use Rattle.cx_look_script.proofs.WatchLemmas.{alone_unwatched}
use Rattle.cx_look_script.specs.Reading.{line_by, look_language, look_line_of, own_line, as_look_line}
use Rattle.cx_look_script.specs.declared.action.Heading.{Heading}
use Rattle.cx_look_script.specs.declared.action.LookAction.{LookAction}
use Rattle.cx_look_script.specs.declared.action.LookAction.TheVariants as action

-- ---- a block
-- a block of `cicsedf` as one of `cicslook`: nothing begins one of lines that are handed over there
abbrev lifted_body : Body NoHeading → Body Heading
lifted_body (kind.Image name stg_len text) = kind.Image name stg_len text
lifted_body (kind.Source name wanted lines) = kind.Source name wanted lines
lifted_body (kind.Lines heading lines) = elim heading [ ]

abbrev lifted : Block NoHeading → Block Heading
lifted block = record { line = block.line; body = lifted_body block.body }

-- ---- a line
-- a step here is one of `cicsedf`: it leads to the same block, and its action is that action
abbrev IsSameStep : LineStep Action NoHeading → LineStep LookAction Heading → Type 0
IsSameStep step here = (here.block ≡ option_map lifted step.block) × (option_map plain_action here.action ≡ option_map (λ (a : Action). Some a) step.action)

abbrev IsLedSame : Result (LineStep Action NoHeading) RunFault → Result (LineStep LookAction Heading) RunFault → Type 0
IsLedSame (Ok step) (Ok here) = IsSameStep step here
IsLedSame (Ok step) (Err fault) = ⊥
IsLedSame (Err fault) here = here ≡ Err fault

line_steps : (number : ℕ) (l : Line Action NoHeading) → IsSameStep (step_of number l) (step_of number (as_look_line l))
line_steps number line.Blank = (refl, refl)
line_steps number (line.Image name stg_len) = (refl, refl)
line_steps number (line.Source name wanted) = (refl, refl)
line_steps number (line.Lines heading) = elim heading [ ]
line_steps number (line.Action a) = (refl, refl)

outside : (number : ℕ) (l : Option (Line Action NoHeading)) (own : Option (Line LookAction Heading)) → (ok_or (option_map (step_of number) l) (BadLine number) ≡ Err (BadLine number) → ⊥)
    → IsLedSame (ok_or (option_map (step_of number) l) (BadLine number)) (ok_or (option_map (step_of number) (line_by l own)) (BadLine number))
outside number None own good = absurd (good refl)
outside number (Some l) own good = line_steps number l

source_steps : (first : ℕ) (make : Prepared → Option Action) (here : Prepared → Option LookAction) (made : Result Prepared PrepareFault)
    → ((p : Prepared) → option_map plain_action (here p) ≡ option_map (λ (a : Action). Some a) (make p))
    → IsLedSame (result_map_both (λ (p : Prepared). action_step (make p)) (fault_of_line first) made) (result_map_both (λ (p : Prepared). action_step (here p)) (fault_of_line first) made)
source_steps first make here (Ok prepared) same = (refl, same prepared)
source_steps first make here (Err fault) same = refl

block_steps : (first : ℕ) (has : Body NoHeading) → IsLedSame (block_end edf_language first has) (block_end look_language first (lifted_body has))
block_steps first (kind.Image name stg_len text) = (refl, refl)
block_steps first (kind.Lines heading lines) = elim heading [ ]
block_steps first (kind.Source name wanted lines) =
    source_steps first (λ made. Some (edf_language.of_source name lines (script.Source name made.text made.image)))
    (λ made. Some (look_language.of_source name lines (script.Source name made.text made.image)))
    (prepared_of wanted.listing wanted.disassembly lines) (λ made. refl)

-- one more line of a block is the same here
same_body : (has : Body NoHeading) (text : List ℕ) → body_with look_language (lifted_body has) text ≡ option_map lifted_body (body_with edf_language has text)
same_body (kind.Image name stg_len bytes) text = go (hex_bytes text)
  where
    go : (spelled : Option (List ℕ)) → option_map (λ new. let b : Body Heading = kind.Image name stg_len (kept_text (bytes ++ new)) in b) spelled
        ≡ option_map lifted_body (option_map (λ new. let b : Body NoHeading = kind.Image name stg_len (kept_text (bytes ++ new)) in b) spelled)
    go None = refl
    go (Some new) = refl
same_body (kind.Source name wanted lines) text = refl
same_body (kind.Lines heading lines) text = elim heading [ ]

-- a block of what the same line begins
abbrev begun : {H : Type 0} → ℕ → Body H → Block H
begun line has = record { line = line; body = has }

same_more : (line : ℕ) (more : Option (Body NoHeading)) → option_map (begun line) (option_map lifted_body more) ≡ option_map lifted (option_map (begun line) more)
same_more line None = refl
same_more line (Some has) = refl

same_block : (block : Block NoHeading) (text : List ℕ) → with_line look_language (lifted block) text ≡ option_map lifted (with_line edf_language block text)
same_block block text =
    ap (λ (more : Option (Body Heading)). option_map (begun block.line) more) (same_body block.body text)
    ∙ same_more block.line (body_with edf_language block.body text)

one_more : (number : ℕ) (next : Option (Block NoHeading)) → (ok_or (option_map (λ b. block_step {A = Action} b) next) (BadLine number) ≡ Err (BadLine number) → ⊥)
    → IsLedSame (ok_or (option_map (λ b. block_step {A = Action} b) next) (BadLine number)) (ok_or (option_map (λ b. block_step {A = LookAction} b) (option_map lifted next)) (BadLine number))
one_more number None good = absurd (good refl)
one_more number (Some block) good = (refl, refl)

within : (number : ℕ) (block : Block NoHeading) (text : List ℕ) → (step_in edf_language number (Some block) text ≡ Err (BadLine number) → ⊥)
    → IsLedSame (step_in edf_language number (Some block) text) (step_in look_language number (Some (lifted block)) text)
within number block text good = go (bytes_eq text (codes "/*")) good
  where
    go : (b : Bool)
        → ((if b then block_end edf_language block.line block.body else ok_or (option_map block_step (with_line edf_language block text)) (BadLine number)) ≡ Err (BadLine number) → ⊥)
        → IsLedSame (if b then block_end edf_language block.line block.body else ok_or (option_map block_step (with_line edf_language block text)) (BadLine number))
        (if b then block_end look_language block.line (lifted_body block.body) else ok_or (option_map block_step (with_line look_language (lifted block) text)) (BadLine number))
    go true h = block_steps block.line block.body
    go false h =
        let next : Option (Block NoHeading) = with_line edf_language block text in
        subst (λ (here : Option (Block Heading)). IsLedSame (ok_or (option_map block_step next) (BadLine number)) (ok_or (option_map block_step here) (BadLine number)))
        (sym (same_block block text)) (one_more number next h)

in_block : (number : ℕ) (block : Option (Block NoHeading)) (text : List ℕ) → (step_in edf_language number block text ≡ Err (BadLine number) → ⊥)
    → IsLedSame (step_in edf_language number block text) (step_in look_language number (option_map lifted block) text)
unfolding look_line_of
in_block number None text good = outside number (line_of text) (own_line number text) good
in_block number (Some block) text good = within number block text good

steps_here : (number : ℕ) (block : Option (Block NoHeading)) (text : List ℕ) → (step_at edf_language number block text ≡ Err (BadLine number) → ⊥)
    → IsLedSame (step_at edf_language number block text) (step_at look_language number (option_map lifted block) text)
unfolding step_at
steps_here number block text good = go (is_too_long text) good
  where
    go : (b : Bool)
        → ((if b then Err (BadLine number) else step_in edf_language number block text) ≡ Err (BadLine number) → ⊥)
        → IsLedSame (if b then Err (BadLine number) else step_in edf_language number block text)
        (if b then Err (BadLine number) else step_in look_language number (option_map lifted block) text)
    go true h = absurd (h refl)
    go false h = in_block number block text h

-- ---- what a line leads to in a script
some_same : {A : Type 0} (x y : A) → Some x ≡ Some y → x ≡ y
some_same x y e = ap (λ o. unwrap_or o x) e

abbrev lifted_place : Place NoHeading → Place Heading
lifted_place place = record { block = option_map lifted place.block; bad_look = place.bad_look }

-- no line of `cicsedf` is a bad look
abbrev HasNoBadLook : Place NoHeading → Type 0
HasNoBadLook place = place.bad_look ≡ None

record IsSameAsked (a : Option Action) (h : Option LookAction) : Type 0 where
  actions : ArePlainActions (actions_of look_language h) (actions_of edf_language a)
  good : option_map_or edf_language.is_deferred_fault a false ≡ false
  good_here : option_map_or look_language.is_deferred_fault h false ≡ false

same_one : (a : Action) (h : LookAction) → plain_action h ≡ Some a → IsSameAsked (Some a) (Some h)
same_one a (action.Script b) e = record { actions = ap (λ (o : Option Action). o ∷ []) e; good = refl; good_here = refl }
same_one a (action.Source name lines b) e = record { actions = ap (λ (o : Option Action). o ∷ []) e; good = refl; good_here = refl }
same_one a (action.Run name n s) e = cc
same_one a (action.RunOn name n s) e = cc
same_one a (action.Watch w) e = cc
same_one a (action.Cover on) e = cc
same_one a (action.Look l) e = cc
same_one a (action.Orders block) e = cc
same_one a (action.Choices block) e = cc
same_one a (action.BadLook number s) e = cc

same_asked : (a : Option Action) (h : Option LookAction) → option_map plain_action h ≡ option_map (λ (x : Action). Some x) a → IsSameAsked a h
same_asked None None e = record { actions = refl; good = refl; good_here = refl }
same_asked None (Some h) e = cc
same_asked (Some a) None e = cc
same_asked (Some a) (Some h) e = same_one a h (some_same (plain_action h) (Some a) e)

none_after : (before : Option ℕ) (bad : Bool) (number : ℕ) → before ≡ None → bad ≡ false → option_or before (if bad then Some number else None) ≡ None
none_after None true number e b = cc
none_after None false number e b = refl
none_after (Some n) bad number e b = cc

-- ---- the lines after it
first_same : {A : Type 0} (x y : A) (xs ys : List A) → x ∷ xs ≡ y ∷ ys → x ≡ y
first_same x y xs ys e = cc

rest_same : {A : Type 0} (x y : A) (xs ys : List A) → x ∷ xs ≡ y ∷ ys → xs ≡ ys
rest_same x y xs ys e = cc

joined_same : {A : Type 0} (x y : A) (xs ys : List A) → x ≡ y → xs ≡ ys → x ∷ xs ≡ y ∷ ys
joined_same x y xs ys e f = cc

append_plain : (here : List LookAction) (script : List Action) (more : List LookAction) (rest : List Action) → ArePlainActions here script → ArePlainActions more rest → ArePlainActions (here ++ more) (script ++ rest)
append_plain [] [] more rest e f = f
append_plain [] (b ∷ script) more rest e f = cc
append_plain (a ∷ here) [] more rest e f = cc
append_plain (a ∷ here) (b ∷ script) more rest e f =
    let first : plain_action a ≡ Some b = first_same (plain_action a) (Some b) (map plain_action here) (map (λ (x : Action). Some x) script) e in
    let left : ArePlainActions here script = rest_same (plain_action a) (Some b) (map plain_action here) (map (λ (x : Action). Some x) script) e in
    joined_same (plain_action a) (Some b) (map plain_action (here ++ more)) (map (λ (x : Action). Some x) (script ++ rest)) first (append_plain here script more rest left f)

-- this step is that, in `cicsedf` and here
abbrev led_here : {A H : Type 0} → Language A H → ℕ → Place H → Result (LineStep A H) RunFault → Result (Step A H) RunFault
led_here language number place due = result_map_both (stepped language number place) (λ (fault : RunFault). fault) due

led : (number : ℕ) (place : Place NoHeading) (due : Result (LineStep Action NoHeading) RunFault) (here : Result (LineStep LookAction Heading) RunFault) (next : Place NoHeading → Script Action)
    (others : Place Heading → Script LookAction)
    → HasNoBadLook place → IsLedSame due here → HasNoBadLine (led_to (led_here edf_language number place due) next)
    → ((p : Place NoHeading) → HasNoBadLook p → HasNoBadLine (next p) → IsSame (next p) (others (lifted_place p)))
    → IsSame (led_to (led_here edf_language number place due) next) (led_to (led_here look_language number (lifted_place place) here) others)
led number place (Err fault) here next others none same good after =
    subst (λ (h : Result (LineStep LookAction Heading) RunFault). IsSame (led_to (Err fault) next) (led_to (led_here look_language number (lifted_place place) h) others)) (sym same)
    (record { actions = refl; fault = refl })
led number place (Ok step) (Err fault) next others none same good after = absurd same
led number place (Ok step) (Ok here) next others none same good after =
    let asked = same_asked step.action here.action same.1 in
    let clean = none_after place.bad_look (option_map_or edf_language.is_deferred_fault step.action false) number none asked.good in
    let clean_here = none_after place.bad_look (option_map_or look_language.is_deferred_fault here.action false) number none asked.good_here in
    let left : Place NoHeading = (stepped edf_language number place step).place in
    let left_here : Place Heading = (stepped look_language number (lifted_place place) here).place in
    let same_place : left_here ≡ lifted_place left =
    ap (λ (b : Option (Block Heading)). let p : Place Heading = record { block = b; bad_look = left_here.bad_look } in p) same.0
    ∙ ap (λ (n : Option ℕ). let p : Place Heading = record { block = option_map lifted step.block; bad_look = n } in p) (clean_here ∙ sym clean) in
    let there : IsSame (next left) (others (lifted_place left)) = after left clean good in
    let there_here : IsSame (next left) (others left_here) = subst (λ (p : Place Heading). IsSame (next left) (others p)) (sym same_place) there in
    record {
      actions = append_plain (actions_of look_language here.action) (actions_of edf_language step.action) (others left_here).actions (next left).actions asked.actions there_here.actions;
      fault = there_here.fault;
    }

bad_first : (number n : ℕ) (place : Place NoHeading) (due : Result (LineStep Action NoHeading) RunFault) (next : Place NoHeading → Script Action)
    → HasNoBadLine (led_to (led_here edf_language n place due) next) → due ≡ Err (BadLine number) → ⊥
bad_first number n place due next good e =
    good number (subst (λ (d : Result (LineStep Action NoHeading) RunFault). (led_to (led_here edf_language n place d) next).fault ≡ Some (BadLine number)) (sym e) refl)

end_same : (block : Option (Block NoHeading)) (bad_look : Option ℕ) → end_fault (option_map lifted block) bad_look ≡ end_fault block bad_look
end_same (Some block) bad_look = refl
end_same None (Some line) = refl
end_same None None = refl

ending_same : (ending : Ending) (place : Place NoHeading) → fault_at_ending ending (lifted_place place) ≡ fault_at_ending ending place
unfolding fault_at_ending
ending_same AtEnd place = end_same place.block place.bad_look
ending_same Failed place = refl
ending_same PastBound place = refl

from_here : (ending : Ending) (number : ℕ) (place : Place NoHeading) (lines : List (List ℕ)) → HasNoBadLook place → HasNoBadLine (script_from edf_language ending number place lines)
    → IsSame (script_from edf_language ending number place lines) (script_from look_language ending number (lifted_place place) lines)
unfolding script_from step_from
from_here ending number place [] none good = record { actions = refl; fault = ending_same ending place }
from_here ending number place (text ∷ lines) none good =
    let next : Place NoHeading → Script Action = λ p. script_from edf_language ending (number + 1) p lines in
    let others : Place Heading → Script LookAction = λ p. script_from look_language ending (number + 1) p lines in
    let due : Result (LineStep Action NoHeading) RunFault = step_at edf_language number place.block text in
    led number place due (step_at look_language number (option_map lifted place.block) text) next others none
    (steps_here number place.block text (bad_first number number place due next good)) good (λ p q h. from_here ending (number + 1) p lines q h)

pub scripts_stay : ScriptsStay
unfolding script_in
scripts_stay ending bytes good = from_here ending 1 first_place (lines_met ending bytes) refl good

-- ---- what is done
acts_same : (make : DisplayMaker) (old : LookState) (a : LookAction) (b : Action) (text : List ℕ) (new : LookState) → plain_action a ≡ Some b → Acts make old a text new
    → Performs make old.edf b text new.edf
unfolding Acts
acts_same make old (action.Script a) b text new e p =
    subst (λ (x : Action). Performs make old.edf x text new.edf) (some_same a b e) (performs make old a text new p)
acts_same make old (action.Source name lines a) b text new e p =
    let kept : p.done.edf ≡ new.edf = sym (ap (λ (s : LookState). s.edf) p.keeps) in
    subst (λ (x : Action). Performs make old.edf x text new.edf) (some_same a b e)
    (subst (λ (s : EdfState). Performs make old.edf a text s) kept (performs make old a text p.done p.performs))
acts_same make old (action.Run name n s) b text new e p = cc
acts_same make old (action.RunOn name n s) b text new e p = cc
acts_same make old (action.BadLook number s) b text new e p = cc
acts_same make old (action.Watch w) b text new e p = cc
acts_same make old (action.Cover on) b text new e p = cc
acts_same make old (action.Look l) b text new e p = cc
acts_same make old (action.Orders block) b text new e p = cc
acts_same make old (action.Choices block) b text new e p = cc

performs_same : (make : DisplayMaker) (old : LookState) (a : LookAction) (b : Action) (text : List ℕ) (new : LookState) → plain_action a ≡ Some b → old.watched ≡ [] → LookPerforms make old a text new
    → Performs make old.edf b text new.edf
performs_same make old a b text new e none p =
    subst (λ l. Performs make old.edf b l new.edf) (sym (alone_unwatched old new (cause_of a) p.own text p.watched p.shown p.is none)) (acts_same make old a b p.own new e p.acts)

-- and no more is watched
no_watch : (a : LookAction) (b : Action) → plain_action a ≡ Some b → is_watch a ≡ false
no_watch (action.Script a) b e = refl
no_watch (action.Source name lines a) b e = refl
no_watch (action.Run name n s) b e = refl
no_watch (action.RunOn name n s) b e = refl
no_watch (action.BadLook number s) b e = refl
no_watch (action.Watch w) b e = cc
no_watch (action.Cover on) b e = refl
no_watch (action.Look l) b e = refl
no_watch (action.Orders block) b e = refl
no_watch (action.Choices block) b e = refl

pub actions_stay : ActionsStay
unfolding PerformsAll
actions_stay make old [] [] text new e none p = (p.0, ap (λ (s : LookState). s.edf) p.1)
actions_stay make old [] (b ∷ plain) text new e none p = cc
actions_stay make old (a ∷ actions) [] text new e none p = cc
actions_stay make old (a ∷ actions) (b ∷ plain) text new e none p =
    let first : plain_action a ≡ Some b = first_same (plain_action a) (Some b) (map plain_action actions) (map (λ (x : Action). Some x) plain) e in
    let rest : ArePlainActions actions plain = rest_same (plain_action a) (Some b) (map plain_action actions) (map (λ (x : Action). Some x) plain) e in
    let still : p.0.watched ≡ [] = watches_stay make old a p.3.own p.0 (no_watch a b first) p.3.acts ∙ none in
    (p.0.edf, p.1, p.2, performs_same make old a b p.1 p.0 first none p.3, actions_stay make p.0 actions plain p.2 new rest still p.4, p.5)
