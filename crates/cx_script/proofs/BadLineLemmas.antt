-- Which line a bad line is, and what was done before it.
use Rattle.std.proofs.Common.{◌≡◌, ℕ, suc, ◌+◌, ◌-◌, ◌<◌, ◌⊎◌, inl, inr, Bool, true, false, codes, cond, List, [], ◌∷◌, length, take, None, Some, Option, Result, Ok, Err, IfSome, IsSomeAnd, MatchOption, refl, sym, ap, ◌∙◌, subst, arith}
use Rattle.std.specs.Prelude.{slice_get}
use Rattle.std.specs.Option.{option_map}
use Rattle.std.specs.Result.{result_map_both}
use Rattle.std.specs.Str.{bytes_eq}
use Rattle.cx_script_blocks.specs.declared.blocks.Block.{Block}
use Rattle.std.specs.Option.{ok_or}
use Rattle.cx_asm_build.specs.Prepared.{prepared_of}
use Rattle.cx_asm_build.specs.declared.faults.PrepareFault.{PrepareFault}
use Rattle.cx_asm_build.specs.declared.faults.PrepareFault.TheVariants as prepare
use Rattle.cx_asm_build.specs.declared.program.Prepared.{Prepared}
use Rattle.cx_script_blocks.specs.declared.blocks.Body.{Body}
use Rattle.cx_script_blocks.specs.declared.blocks.Body.TheVariants as kind
use Rattle.cx_script_blocks.specs.Blocks.{body_with, block_step, action_step, block_end, fault_of_line, step_at, step_in, step_of, with_line}
use Rattle.cx_script_io.specs.Lines.{is_too_long, lines_met}
use Rattle.cx_script.specs.Script.{Script, Step, actions_of, end_fault, first_place, script_in, script_from, step_from, stepped, fault_at_ending, with_actions_first, led_to}
use Rattle.cx_script.specs.declared.run.Place.{Place}
use Rattle.cx_script_actions.specs.declared.actions.Action.TheVariants as action
use Rattle.cx_script.specs.Laws.BadLines.{place_after_line, place_after_lines, IsBadIn, IsBadLine, BadLinesAreBad}
use Rattle.cx_script_actions.specs.Language.{Language}
use Rattle.cx_script_actions.specs.declared.actions.Line.{Line}
use Rattle.cx_script_actions.specs.declared.actions.Line.TheVariants as line
use Rattle.cx_script_blocks.specs.declared.blocks.LineStep.{LineStep}
use Rattle.cx_script_blocks.specs.declared.faults.RunFault.{RunFault}
use Rattle.cx_script_blocks.specs.declared.faults.RunFault.TheVariants.{BadLine, Source, Read, Memory}
use Rattle.cx_script_io.specs.declared.input.Ending.{Ending}
use Rattle.cx_script_io.specs.declared.input.Ending.TheVariants.{AtEnd, Failed, PastBound}
use Rattle.cx_script.proofs.FaultLemmas.{fault_before, is_own, led_own, MayBeLed}

-- ---- a line that leads to BadLine is bad at its place
abbrev Reported : {A H : Type 0} → Language A H → ℕ → Option (Block H) → List ℕ → RunFault → Type 0
Reported language number block text (BadLine n) = (n ≡ number) × IsBadIn language number block text
Reported language number block text _ = Unit {0}

unreported : {A B H : Type 0} (o : Option B) (f : B → LineStep A H) (number : ℕ) (fault : RunFault) → ok_or (option_map f o) (BadLine number) ≡ Err fault → (o ≡ None) × (fault ≡ BadLine number)
unreported None f number fault e = (refl, cc)
unreported (Some x) f number fault e = cc

reported : {A H : Type 0} (language : Language A H) (number : ℕ) (block : Option (Block H)) (text : List ℕ) (fault : RunFault) → fault ≡ BadLine number → IsBadIn language number block text → Reported language number block text fault
reported language number block text fault e h = subst (Reported language number block text) (sym e) (refl, h)

-- an end has no BadLine
source_reported : {A H : Type 0} (language : Language A H) (number : ℕ) (block : Block H) (text : List ℕ) (make : Prepared → LineStep A H) (due : Result Prepared PrepareFault) (fault : RunFault)
    → result_map_both make (fault_of_line block.line) due ≡ Err fault → Reported language number (Some block) text fault
source_reported language number block text make (Ok prepared) fault e = cc
source_reported language number block text make (Err (prepare.At n k)) fault e =
    let same : Source (block.line + n) k ≡ fault = cc in subst (Reported language number (Some block) text) same tt
source_reported language number block text make (Err prepare.Memory) fault e =
    let same : Memory ≡ fault = cc in subst (Reported language number (Some block) text) same tt

end_reported : {A H : Type 0} (language : Language A H) (number : ℕ) (block : Block H) (text : List ℕ) (has : Body H) (fault : RunFault)
    → block_end language block.line has ≡ Err fault → Reported language number (Some block) text fault
end_reported language number block text (kind.Image name stg_len bytes) fault e = cc
end_reported language number block text (kind.Lines heading lines) fault e = cc
end_reported language number block text (kind.Source name wanted lines) fault e =
    source_reported language number block text _ (prepared_of wanted.listing wanted.disassembly lines) fault e

within_reported : {A H : Type 0} (language : Language A H) (number : ℕ) (block : Block H) (text : List ℕ) (end : Bool) (fault : RunFault) → bytes_eq text (codes "/*") ≡ end
    → cond end (block_end language block.line block.body) (ok_or (option_map block_step (with_line language block text)) (BadLine number)) ≡ Err fault → Reported language number (Some block) text fault
within_reported language number block text true fault b e = end_reported language number block text block.body fault e
within_reported language number block text false fault b e =
    let u = unreported (with_line language block text) block_step number fault e in
    reported language number (Some block) text fault u.1 (inr (b, u.0))

in_reported : {A H : Type 0} (language : Language A H) (number : ℕ) (block : Option (Block H)) (text : List ℕ) (long : Bool) (fault : RunFault) → long ≡ is_too_long text
    → cond long (Err (BadLine number)) (step_in language number block text) ≡ Err fault → Reported language number block text fault
in_reported language number None text true fault l e = let same : fault ≡ BadLine number = cc in reported language number None text fault same (inl (sym l))
in_reported language number (Some block) text true fault l e = let same : fault ≡ BadLine number = cc in reported language number (Some block) text fault same (inl (sym l))
in_reported language number None text false fault l e =
    let u = unreported (language.line_of number text) (step_of number) number fault e in
    reported language number None text fault u.1 (inr u.0)
in_reported language number (Some block) text false fault l e = within_reported language number block text (bytes_eq text (codes "/*")) fault refl e

is_reported : {A H : Type 0} (language : Language A H) (number : ℕ) (block : Option (Block H)) (text : List ℕ) (fault : RunFault) → step_at language number block text ≡ Err fault → Reported language number block text fault
unfolding step_at
is_reported language number block text fault e = in_reported language number block text (is_too_long text) fault refl e

-- ---- a block that a line leaves was begun by it, or is that which it was in
abbrev Began : {A H : Type 0} → ℕ → Option (Block H) → LineStep A H → Type 0
Began number block step = MatchOption step.block (Unit {0}) (λ next. (step.action ≡ None) × MatchOption block (next.line ≡ number) (λ b. next.line ≡ b.line))

began_line : {A H : Type 0} (number : ℕ) (asked : Option (Line A H)) (step : LineStep A H) → ok_or (option_map (step_of number) asked) (BadLine number) ≡ Ok step → Began number None step
began_line number None step e = cc
began_line number (Some line.Blank) step e = let same : step_of number line.Blank ≡ step = cc in subst (Began number None) same tt
began_line number (Some (line.Image name len)) step e = let same : step_of number (line.Image name len) ≡ step = cc in subst (Began number None) same (refl, refl)
began_line number (Some (line.Source name wanted)) step e = let same : step_of number (line.Source name wanted) ≡ step = cc in subst (Began number None) same (refl, refl)
began_line number (Some (line.Lines heading)) step e = let same : step_of number (line.Lines heading) ≡ step = cc in subst (Began number None) same (refl, refl)
began_line number (Some (line.Action a)) step e = let same : step_of number (line.Action a) ≡ step = cc in subst (Began number None) same tt

began_more : {A H : Type 0} (number : ℕ) (block : Block H) (more : Option (Block H)) (step : LineStep A H) → IfSome more (λ next. next.line ≡ block.line)
    → ok_or (option_map block_step more) (BadLine number) ≡ Ok step → Began number (Some block) step
began_more number block None step h e = cc
began_more number block (Some next) step h e = let same : block_step next ≡ step = cc in subst (Began number (Some block)) same (refl, h)

-- one more line leaves a block that the same line began
line_kept : {H : Type 0} (block : Block H) (more : Option (Body H))
    → IfSome (option_map (λ it. let next : Block H = record { line = block.line; body = it } in next) more) (λ next. next.line ≡ block.line)
line_kept block None = tt
line_kept block (Some it) = refl

began_done : {A H : Type 0} (language : Language A H) (number : ℕ) (block : Block H) (asked : Option A) (step : LineStep A H)
    → (let made : Result (LineStep A H) RunFault = Ok (action_step asked) in made ≡ Ok step) → Began number (Some block) step
began_done {A} {H} language number block asked step e =
    let same : action_step asked ≡ step = cc in subst (Began number (Some block)) same tt

began_source : {A H : Type 0} (language : Language A H) (number : ℕ) (block : Block H) (make : Prepared → Option A) (due : Result Prepared PrepareFault) (step : LineStep A H)
    → result_map_both (λ (p : Prepared). action_step (make p)) (fault_of_line block.line) due ≡ Ok step → Began number (Some block) step
began_source language number block make (Err fault) step e = cc
began_source language number block make (Ok prepared) step e = began_done language number block (make prepared) step e

began_end : {A H : Type 0} (language : Language A H) (number : ℕ) (block : Block H) (has : Body H) (step : LineStep A H) → block_end language block.line has ≡ Ok step → Began number (Some block) step
began_end language number block (kind.Image name stg_len text) step e = began_done language number block _ step e
began_end language number block (kind.Lines heading lines) step e = began_done language number block _ step e
began_end language number block (kind.Source name wanted lines) step e =
    began_source language number block (λ made. Some (language.of_source name lines (action.Source name made.text made.image)))
    (prepared_of wanted.listing wanted.disassembly lines) step e

began_within : {A H : Type 0} (language : Language A H) (number : ℕ) (block : Block H) (text : List ℕ) (end : Bool) (step : LineStep A H)
    → cond end (block_end language block.line block.body) (ok_or (option_map block_step (with_line language block text)) (BadLine number)) ≡ Ok step → Began number (Some block) step
began_within language number block text true step e = began_end language number block block.body step e
began_within language number block text false step e = began_more number block (with_line language block text) step (line_kept block (body_with language block.body text)) e

began_in : {A H : Type 0} (language : Language A H) (number : ℕ) (block : Option (Block H)) (text : List ℕ) (long : Bool) (step : LineStep A H) → cond long (Err (BadLine number)) (step_in language number block text) ≡ Ok step → Began number block step
began_in language number block text true step e = cc
began_in language number None text false step e = began_line number (language.line_of number text) step e
began_in language number (Some block) text false step e = began_within language number block text (bytes_eq text (codes "/*")) step e

began : {A H : Type 0} (language : Language A H) (number : ℕ) (block : Option (Block H)) (text : List ℕ) (step : LineStep A H) → step_at language number block text ≡ Ok step → Began number block step
unfolding step_at
began language number block text step e = began_in language number block text (is_too_long text) step e

-- ---- a script whose first line leads to a step
led : {A H : Type 0} (language : Language A H) (ending : Ending) (number : ℕ) (place : Place H) (text : List ℕ) (lines : List (List ℕ)) (step : Step A H) → step_from language number place text ≡ Ok step
    → script_from language ending number place (text ∷ lines) ≡ with_actions_first step.actions (script_from language ending (number + 1) step.place lines)
unfolding script_from
led language ending number place text lines step e = ap (λ d. led_to d (λ next. script_from language ending (number + 1) next lines)) e

-- the same actions, with no fault except that no more is read
abbrev unended : {A : Type 0} → Script A → Script A
unended script = record { actions = script.actions; fault = Some Read }

before_unended : {A : Type 0} (actions : List A) (script : Script A) → with_actions_first actions (unended script) ≡ unended (with_actions_first actions script)
before_unended actions script = refl

-- ---- where the fault of a script is
record Met {A H : Type 0} (language : Language A H) (ending : Ending) (number : ℕ) (place : Place H) (lines : List (List ℕ)) (n : ℕ) : Type 0 where
  k : ℕ
  at : n ≡ number + k
  text : List ℕ
  is : slice_get lines k ≡ Some text
  within : k < length lines
  bad : IsBadIn language n (place_after_lines language number place (take k lines)).block text
  done : script_from language Failed number place (take k lines) ≡ unended (script_from language ending number place lines)

record Open {A H : Type 0} (language : Language A H) (ending : Ending) (number : ℕ) (place : Place H) (lines : List (List ℕ)) (n : ℕ) : Type 0 where
  ended : ending ≡ AtEnd
  left : Block H
  is : (place_after_lines language number place lines).block ≡ Some left
  at : left.line ≡ n
  done : script_from language Failed number place lines ≡ unended (script_from language ending number place lines)

at_end : {A H : Type 0} (language : Language A H) (number : ℕ) (block : Option (Block H)) (bad_look : Option ℕ) (n : ℕ) → end_fault block bad_look ≡ Some (BadLine n)
    → (let place : Place H = record { block = block; bad_look = bad_look } in Open language AtEnd number place [] n)
unfolding fault_at_ending script_from place_after_lines
at_end language number None None n e = cc
at_end language number None (Some line) n e = cc
at_end language number (Some block) bad_look n e = record { ended = refl; left = block; is = refl; at = cc; done = refl }

left_over : {A H : Type 0} (language : Language A H) (ending : Ending) (number : ℕ) (place : Place H) (n : ℕ) → fault_at_ending ending place ≡ Some (BadLine n) → Met language ending number place [] n ⊎ Open language ending number place [] n
unfolding fault_at_ending
left_over language AtEnd number place n e = inr (at_end language number place.block place.bad_look n e)
left_over language Failed number place n e = cc
left_over language PastBound number place n e = cc

-- a step in a script is that of its line, and so is a fault
not_led : {A H : Type 0} (language : Language A H) (number : ℕ) (place : Place H) (text : List ℕ) (fault : RunFault) → step_from language number place text ≡ Err fault → step_at language number place.block text ≡ Err fault
unfolding step_from
not_led {A} {H} language number place text fault e = go (step_at language number place.block text) e
  where
    go : (due : Result (LineStep A H) RunFault) → result_map_both (stepped language number place) (λ (f : RunFault). f) due ≡ Err fault → due ≡ Err fault
    go (Ok step) e = cc
    go (Err own) e = let same : own ≡ fault = cc in ap Err same

record LedBy {A H : Type 0} (language : Language A H) (number : ℕ) (place : Place H) (text : List ℕ) (step : Step A H) : Type 0 where
  by : LineStep A H
  led : step_at language number place.block text ≡ Ok by
  is : stepped language number place by ≡ step

led_by : {A H : Type 0} (language : Language A H) (number : ℕ) (place : Place H) (text : List ℕ) (step : Step A H) → step_from language number place text ≡ Ok step → LedBy language number place text step
unfolding step_from
led_by {A} {H} language number place text step e = go (step_at language number place.block text) refl e
  where
    go : (due : Result (LineStep A H) RunFault) → step_at language number place.block text ≡ due → result_map_both (stepped language number place) (λ (f : RunFault). f) due ≡ Ok step
        → LedBy language number place text step
    go (Ok by) d e = record { by = by; led = d; is = cc }
    go (Err own) d e = cc

met_here : {A H : Type 0} (language : Language A H) (ending : Ending) (number : ℕ) (place : Place H) (text : List ℕ) (lines : List (List ℕ)) (n : ℕ) → (due : RunFault) → step_from language number place text ≡ Err due
    → (script_from language ending number place (text ∷ lines)).fault ≡ Some (BadLine n) → Met language ending number place (text ∷ lines) n
unfolding script_from place_after_lines fault_at_ending
met_here {A} {H} language ending number place text lines n due e f =
    let bad = ap (λ d. led_to d (λ next. script_from language ending (number + 1) next lines)) e in
    let fault : (script_from language ending number place (text ∷ lines)).fault ≡ Some due = ap (λ (s : Script A). s.fault) bad in
    let none : (script_from language ending number place (text ∷ lines)).actions ≡ [] = ap (λ (s : Script A). s.actions) bad in
    let same : due ≡ BadLine n = cc in
    let how : Reported language number place.block text (BadLine n) = subst (Reported language number place.block text) same (is_reported language number place.block text due (not_led language number place text due e)) in
    record {
      k = 0;
      at = omega (arith, how.0);
      text = text;
      is = refl;
      within = omega arith;
      bad = subst (λ (i : ℕ). IsBadIn language i place.block text) (sym how.0) how.1;
      done = ap (λ (l : List A). let s : Script A = record { actions = l; fault = Some Read } in s) (sym none);
    }

met_later : {A H : Type 0} (language : Language A H) (ending : Ending) (number : ℕ) (place : Place H) (text : List ℕ) (lines : List (List ℕ)) (n : ℕ) (step : Step A H) → step_from language number place text ≡ Ok step
    → Met language ending (number + 1) step.place lines n → Met language ending number place (text ∷ lines) n
unfolding place_after_lines
met_later language ending number place text lines n step e m =
    record {
      k = suc m.k;
      at = omega (arith, m.at);
      text = m.text;
      is = m.is;
      within = omega (arith, m.within);
      bad = subst (λ d. IsBadIn language n (place_after_lines language (number + 1) (place_after_line d) (take m.k lines)).block m.text) (sym e) m.bad;
      done = led language Failed number place text (take m.k lines) step e ∙ ap (with_actions_first step.actions) m.done
          ∙ before_unended step.actions (script_from language ending (number + 1) step.place lines) ∙ ap unended (sym (led language ending number place text lines step e));
    }

open_later : {A H : Type 0} (language : Language A H) (ending : Ending) (number : ℕ) (place : Place H) (text : List ℕ) (lines : List (List ℕ)) (n : ℕ) (step : Step A H) → step_from language number place text ≡ Ok step
    → Open language ending (number + 1) step.place lines n → Open language ending number place (text ∷ lines) n
unfolding place_after_lines
open_later language ending number place text lines n step e o =
    record {
      ended = o.ended;
      left = o.left;
      at = o.at;
      is = ap (λ d. (place_after_lines language (number + 1) (place_after_line d) lines).block) e ∙ o.is;
      done = led language Failed number place text lines step e ∙ ap (with_actions_first step.actions) o.done
          ∙ before_unended step.actions (script_from language ending (number + 1) step.place lines) ∙ ap unended (sym (led language ending number place text lines step e));
    }

later : {A H : Type 0} (language : Language A H) (ending : Ending) (number : ℕ) (place : Place H) (text : List ℕ) (lines : List (List ℕ)) (n : ℕ) (due : Result (Step A H) RunFault) → step_from language number place text ≡ due
    → (script_from language ending number place (text ∷ lines)).fault ≡ Some (BadLine n)
    → ((next : Place H) → (script_from language ending (number + 1) next lines).fault ≡ Some (BadLine n) → Met language ending (number + 1) next lines n ⊎ Open language ending (number + 1) next lines n)
    → Met language ending number place (text ∷ lines) n ⊎ Open language ending number place (text ∷ lines) n
later language ending number place text lines n (Err due) e f ih = inl (met_here language ending number place text lines n due e f)
later {A} {H} language ending number place text lines n (Ok step) e f ih =
    let rest = script_from language ending (number + 1) step.place lines in
    let same : (script_from language ending number place (text ∷ lines)).fault ≡ rest.fault = ap (λ (s : Script A). s.fault) (led language ending number place text lines step e) ∙ fault_before step.actions rest in
    elim (ih step.place (sym same ∙ f)) [
      | inl m ↦ inl (met_later language ending number place text lines n step e m)
      | inr o ↦ inr (open_later language ending number place text lines n step e o)
    ]

found : {A H : Type 0} (language : Language A H) (ending : Ending) (number : ℕ) (place : Place H) (lines : List (List ℕ)) (n : ℕ) → (script_from language ending number place lines).fault ≡ Some (BadLine n)
    → Met language ending number place lines n ⊎ Open language ending number place lines n
unfolding script_from
found language ending number place [] n e = left_over language ending number place n e
found language ending number place (text ∷ lines) n e =
    later language ending number place text lines n (step_from language number place text) refl e (λ next f. found language ending (number + 1) next lines n f)

-- ---- the line that begins an open block
record BeganAt {A H : Type 0} (language : Language A H) (number : ℕ) (place : Place H) (lines : List (List ℕ)) (left : Block H) : Type 0 where
  k : ℕ
  within : k < length lines
  at : left.line ≡ number + k
  done : script_from language Failed number place (take k lines) ≡ script_from language Failed number place lines

record Stays {A H : Type 0} (language : Language A H) (number : ℕ) (place : Place H) (lines : List (List ℕ)) (left : Block H) : Type 0 where
  same : IsSomeAnd place.block (λ b. b.line ≡ left.line)
  idle : (script_from language Failed number place lines).actions ≡ []

is_left : {H : Type 0} (block : Option (Block H)) (left : Block H) → block ≡ Some left → IsSomeAnd block (λ b. b.line ≡ left.line)
is_left {H} None left e = cc
is_left {H} (Some b) left e = let same : b ≡ left = cc in ap (λ (x : Block H). x.line) same

stayed : {A H : Type 0} (language : Language A H) (number : ℕ) (place : Place H) (left : Block H) → place.block ≡ Some left → Stays language number place [] left
unfolding script_from
stayed language number place left e = record { same = is_left place.block left e; idle = refl }

-- a script by its parts
by_parts : {A : Type 0} (script : Script A) → script.actions ≡ [] → script.fault ≡ Some Read → script ≡ record { actions = []; fault = Some Read }
by_parts {A} script a f =
    ap (λ (l : List A). let s : Script A = record { actions = l; fault = script.fault } in s) a
    ∙ ap (λ (o : Option RunFault). let s : Script A = record { actions = []; fault = o } in s) f

-- a line that left the block in which the next ones stay
stays_by : {H : Type 0} (before next : Option (Block H)) (number line : ℕ) → IsSomeAnd next (λ b. b.line ≡ line) → MatchOption next (Unit {0}) (λ b. MatchOption before (b.line ≡ number) (λ a. b.line ≡ a.line))
    → (line ≡ number) ⊎ IsSomeAnd before (λ a. a.line ≡ line)
stays_by before None number line s h = absurd s
stays_by None (Some b) number line s h = inl (sym s ∙ h)
stays_by (Some a) (Some b) number line s h = inr (sym h ∙ s)

began_some : {A H : Type 0} (block next : Option (Block H)) (number line : ℕ) (action : Option A) → IsSomeAnd next (λ b. b.line ≡ line) → MatchOption next (Unit {0}) (λ b. (action ≡ None) × MatchOption block (b.line ≡ number) (λ a. b.line ≡ a.line))
    → (action ≡ None) × MatchOption next (Unit {0}) (λ b. MatchOption block (b.line ≡ number) (λ a. b.line ≡ a.line))
began_some block None number line action s h = absurd s
began_some block (Some b) number line action s h = h

stays_on : {A H : Type 0} (language : Language A H) (number : ℕ) (place : Place H) (text : List ℕ) (lines : List (List ℕ)) (left : Block H) (step : Step A H)
    → step_from language number place text ≡ Ok step
    → (script_from language Failed number place (text ∷ lines)).fault ≡ Some Read → Stays language (number + 1) step.place lines left
    → BeganAt language number place (text ∷ lines) left ⊎ Stays language number place (text ∷ lines) left
unfolding script_from fault_at_ending
stays_on {A} {H} language number place text lines left step e f s =
    let l = led_by language number place text step e in
    let same_place : l.by.block ≡ step.place.block = ap (λ (x : Step A H). x.place.block) l.is in
    let stays = subst (λ (o : Option (Block H)). IsSomeAnd o (λ (b : Block H). b.line ≡ left.line)) (sym same_place) s.same in
    let how = began_some place.block l.by.block number left.line l.by.action stays (began language number place.block text l.by l.led) in
    let none : step.actions ≡ [] = sym (ap (λ (x : Step A H). x.actions) l.is) ∙ ap (λ (o : Option A). actions_of language o) how.0 in
    let rest = script_from language Failed (number + 1) step.place lines in
    let whole : script_from language Failed number place (text ∷ lines) ≡ rest = led language Failed number place text lines step e ∙ ap (λ (a : List A). with_actions_first a rest) none in
    elim (stays_by place.block l.by.block number left.line stays how.1) [
      | inl same ↦ inl (record { k = 0; within = omega arith; at = omega (arith, same); done = sym (whole ∙ by_parts rest s.idle (sym (ap (λ (x : Script A). x.fault) whole) ∙ f)) })
      | inr same ↦ inr (record { same = same; idle = ap (λ (x : Script A). x.actions) whole ∙ s.idle })
    ]

began_later : {A H : Type 0} (language : Language A H) (number : ℕ) (place : Place H) (text : List ℕ) (lines : List (List ℕ)) (left : Block H) (step : Step A H) → step_from language number place text ≡ Ok step
    → BeganAt language (number + 1) step.place lines left → BeganAt language number place (text ∷ lines) left
began_later language number place text lines left step e b =
    record {
      k = suc b.k;
      within = omega (arith, b.within);
      at = omega (arith, b.at);
      done = led language Failed number place text (take b.k lines) step e ∙ ap (with_actions_first step.actions) b.done ∙ sym (led language Failed number place text lines step e);
    }

opened_line : {A H : Type 0} (language : Language A H) (number : ℕ) (place : Place H) (text : List ℕ) (lines : List (List ℕ)) (left : Block H) (due : Result (Step A H) RunFault) → step_from language number place text ≡ due
    → (script_from language Failed number place (text ∷ lines)).fault ≡ Some Read → (place_after_lines language (number + 1) (place_after_line due) lines).block ≡ Some left
    → ((next : Place H) → (script_from language Failed (number + 1) next lines).fault ≡ Some Read → (place_after_lines language (number + 1) next lines).block ≡ Some left
    → BeganAt language (number + 1) next lines left ⊎ Stays language (number + 1) next lines left)
    → BeganAt language number place (text ∷ lines) left ⊎ Stays language number place (text ∷ lines) left
unfolding script_from
opened_line {A} {H} language number place text lines left (Err due) e f b ih =
    let bad = ap (λ d. led_to d (λ next. script_from language Failed (number + 1) next lines)) e in
    let fault : (script_from language Failed number place (text ∷ lines)).fault ≡ Some due = ap (λ (s : Script A). s.fault) bad in
    let same : due ≡ Read = cc in
    let own : is_own Read ≡ true = subst (λ f. is_own f ≡ true) same (subst MayBeLed e (led_own language number place text)) in cc
opened_line {A} {H} language number place text lines left (Ok step) e f b ih =
    let rest = script_from language Failed (number + 1) step.place lines in
    let same : (script_from language Failed number place (text ∷ lines)).fault ≡ rest.fault = ap (λ (s : Script A). s.fault) (led language Failed number place text lines step e) ∙ fault_before step.actions rest in
    elim (ih step.place (sym same ∙ f) b) [
      | inl m ↦ inl (began_later language number place text lines left step e m)
      | inr s ↦ stays_on language number place text lines left step e f s
    ]

opened : {A H : Type 0} (language : Language A H) (number : ℕ) (place : Place H) (lines : List (List ℕ)) (left : Block H) → (script_from language Failed number place lines).fault ≡ Some Read
    → (place_after_lines language number place lines).block ≡ Some left → BeganAt language number place lines left ⊎ Stays language number place lines left
unfolding place_after_lines
opened language number place [] left f b = inr (stayed language number place left b)
opened language number place (text ∷ lines) left f b =
    opened_line language number place text lines left (step_from language number place text) refl f b (λ next g c. opened language (number + 1) next lines left g c)

-- ---- both
from_met : {A H : Type 0} (language : Language A H) (ending : Ending) (bytes : List ℕ) (n : ℕ) → Met language ending 1 first_place (lines_met ending bytes) n → IsBadLine language ending bytes n
unfolding script_in
from_met language ending bytes n m =
    let place : n - 1 ≡ m.k = omega (arith, m.at) in
    record {
      first = omega (arith, m.at);
      last = omega (arith, m.at, m.within);
      bad = inl (rw (place, m.is) m.bad);
      done = rw place m.done;
    }

from_began : {A H : Type 0} (language : Language A H) (ending : Ending) (bytes : List ℕ) (n : ℕ) (o : Open language ending 1 first_place (lines_met ending bytes) n) → BeganAt language 1 first_place (lines_met ending bytes) o.left → IsBadLine language ending bytes n
unfolding script_in
from_began language ending bytes n o b =
    let place : n - 1 ≡ b.k = omega (arith, o.at, b.at) in
    record {
      first = omega (arith, o.at, b.at);
      last = omega (arith, o.at, b.at, b.within);
      bad = inr (o.ended, rw o.is o.at);
      done = rw place (b.done ∙ o.done);
    }

from_open : {A H : Type 0} (language : Language A H) (ending : Ending) (bytes : List ℕ) (n : ℕ) → Open language ending 1 first_place (lines_met ending bytes) n → IsBadLine language ending bytes n
from_open {A} {H} language ending bytes n o =
    elim (opened language 1 first_place (lines_met ending bytes) o.left (ap (λ (s : Script A). s.fault) o.done) o.is) [
      | inl b ↦ from_began language ending bytes n o b
      | inr s ↦ absurd s.same
    ]

pub bad_lines_are_bad : {A H : Type 0} (language : Language A H) → BadLinesAreBad language
unfolding script_in
bad_lines_are_bad language ending bytes n e =
    let lines = lines_met ending bytes in
    elim (found language ending 1 first_place lines n e) [
      | inl m ↦ from_met language ending bytes n m
      | inr o ↦ from_open language ending bytes n o
    ]
