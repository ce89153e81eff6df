-- A run of a script, line by line.
use Rattle.std.specs.Prelude.{◌≡◌, ℕ, ◌+◌, ◌<◌, Option, Some, None, Result, Ok, Err, List, [], ◌∷◌, ◌++◌, length, map, take}
use Rattle.std.specs.List.{FoldsTo}
use Rattle.cx_script_io.specs.Calls.{DeviceCall, Reading, Writing, did, given, taken}
use Rattle.cx_script_io.specs.Input.{IsEnding}
use Rattle.cx_script_io.specs.Devices.{Sends, SentFront, DeviceOutput, device_output}
use Rattle.cx_script.specs.declared.run.Place.{Place}
use Rattle.cx_script_io.specs.Lines.{lines_met}
use Rattle.cx_script.specs.Script.{Step, actions_of, first_place, script_from, with_actions_first}
use Rattle.cx_script_io.specs.declared.input.Ending.{Ending}
use Rattle.cx_script_io.specs.declared.input.Ending.TheVariants.{Failed}
use Rattle.cx_script_actions.specs.Language.{Language}
use Rattle.cx_script_blocks.specs.declared.faults.RunFault.{RunFault}
use Rattle.cx_script_blocks.specs.declared.faults.RunFault.TheVariants.{BadLine, Read, Write, Memory}
use Rattle.cx_script_blocks.specs.declared.faults.Summary.{Summary}
use Rattle.cx_script.specs.Transcript.{EndsScript, PerformsAll, Wrote}

-- what is written is kept as a list of bytes
abbrev pub logs : List ℕ → Option (List ℕ) → List ℕ → Type 0
logs before (Some bytes) after = after ≡ before ++ bytes
logs before None after = after ≡ before

-- some writes took a writer from one state to another; and this holds of what was written before, whatever it is, and
-- after them
pub record Calling {W : Type 0} (writes : W → Option (List ℕ) → W → Type 0) (before after : W)
    (Does : List ℕ → List ℕ → Type 0) : Type 0 where
  pub calls : List (Option (List ℕ))
  pub made : FoldsTo writes before calls after
  pub does : (log : List ℕ) → Does log (log ++ taken (map Writing calls))

-- one action and its text, by what was answered
unfoldable pub ActsOnce : {A S : Type 0} → (S → A → List ℕ → S → Type 0) → (S → A → S → Type 0) → A → S
    → DeviceOutput (List ℕ) → Result (Unit {0}) RunFault → S → DeviceOutput (List ℕ) → Type 0
ActsOnce performs refused action old before (Ok done) new after =
    (text : List ℕ) × performs old action text new × Sends logs before after text
ActsOnce performs refused action old before (Err Memory) new after = refused old action new × (after ≡ before)
ActsOnce performs refused action old before (Err Write) new after =
    (text : List ℕ) × performs old action text new × SentFront logs before after text
ActsOnce performs refused action old before (Err _) new after = ⊥

-- Memory was refused for one of these actions: those in front of it are done, from the state before to that in which it
-- was refused, and exactly their texts are written, or wait.
pub record RefusedAmong {A S : Type 0} (performs : S → A → List ℕ → S → Type 0) (refused : S → A → S → Type 0)
    (actions : List A) (old : S) (before : DeviceOutput (List ℕ)) (new : S) (after : DeviceOutput (List ℕ))
    : Type 0 where
  pub done : List A
  pub action : A
  pub left : List A
  pub asked : actions ≡ done ++ action ∷ left
  pub mid : S
  pub text : List ℕ
  pub runs : PerformsAll performs old done text mid
  pub is : refused mid action new
  pub written : Sends logs before after text

-- some of these actions are done, of whose texts a front is written
pub record UnwrittenAmong {A S : Type 0} (performs : S → A → List ℕ → S → Type 0) (actions : List A) (old : S)
    (before : DeviceOutput (List ℕ)) (new : S) (after : DeviceOutput (List ℕ)) : Type 0 where
  pub done : List A
  pub left : List A
  pub asked : actions ≡ done ++ left
  pub text : List ℕ
  pub runs : PerformsAll performs old done text new
  pub written : SentFront logs before after text

-- actions and their texts, by what was answered
unfoldable pub Acted : {A S : Type 0} → (S → A → List ℕ → S → Type 0) → (S → A → S → Type 0) → List A → S
    → DeviceOutput (List ℕ) → Result (Unit {0}) RunFault → S → DeviceOutput (List ℕ) → Type 0
Acted performs refused actions old before (Ok done) new after =
    (text : List ℕ) × PerformsAll performs old actions text new × Sends logs before after text
Acted performs refused actions old before (Err Memory) new after =
    RefusedAmong performs refused actions old before new after
Acted performs refused actions old before (Err Write) new after = UnwrittenAmong performs actions old before new after
Acted performs refused actions old before (Err _) new after = ⊥

-- how far the actions are done that are asked from this one on: up to that which is due
pub record Acting {A H S : Type 0} (language : Language A H) (performs : S → A → List ℕ → S → Type 0) (first : Option A)
    (old : S) (before : DeviceOutput (List ℕ)) (due : Option A) (new : S) (after : DeviceOutput (List ℕ)) : Type 0 where
  pub done : List A
  pub asked : actions_of language first ≡ done ++ actions_of language due
  pub text : List ℕ
  pub runs : PerformsAll performs old done text new
  pub written : Sends logs before after text

-- the transcript of these actions is written, or waits
abbrev pub SentAll : {A S : Type 0} → (S → A → List ℕ → S → Type 0) → S → List A → DeviceOutput (List ℕ)
    → DeviceOutput (List ℕ) → Type 0
SentAll performs old actions before after = Wrote (Sends logs before after) performs old actions

-- a front of it is written, and of what waited
abbrev pub SentSome : {A S : Type 0} → (S → A → List ℕ → S → Type 0) → S → List A → DeviceOutput (List ℕ)
    → DeviceOutput (List ℕ) → Type 0
SentSome performs old actions before after = Wrote (SentFront logs before after) performs old actions

-- the actions of a line, where it has no fault of its own
abbrev pub actions_due : {A H : Type 0} → Result (Step A H) RunFault → List A
actions_due (Ok step) = step.actions
actions_due (Err fault) = []

-- of some actions the first are done, and this became of their texts
pub record DoneOf {A : Type 0} (Texts : List A → Type 0) (actions : List A) : Type 0 where
  pub own : List A
  pub left : List A
  pub asked : actions ≡ own ++ left
  pub sent : Texts own

-- a line with this number, of which this step or fault is due, by what was answered; a bad one is never reported as
-- Memory
unfoldable pub TakesLine : {A H S : Type 0} → (S → A → List ℕ → S → Type 0) → ℕ → Result (Step A H) RunFault → S
    → DeviceOutput (List ℕ) → Result (Unit {0}) RunFault → S → DeviceOutput (List ℕ) → Place H → Type 0
TakesLine performs number due old before (Err Memory) new after place =
    (due ≡ Err (BadLine number) → ⊥) × DoneOf (λ own. SentAll performs old own before after) (actions_due due)
TakesLine performs number due old before (Err Write) new after place =
    DoneOf (λ own. SentSome performs old own before after) (actions_due due)
TakesLine performs number due old before (Err fault) new after place = (due ≡ Err fault) × (after ≡ before)
TakesLine {A} {H} performs number due old before (Ok done) new after place =
    (step : Step A H) × (due ≡ Ok step) × (place ≡ step.place)
    × (text : List ℕ) × PerformsAll performs old step.actions text new × Sends logs before after text

-- Some lines are done, after n others and in this block: however the script goes on, what it asks is their actions, and
-- what the next lines ask.
pub record Took {A H S : Type 0} (language : Language A H) (performs : S → A → List ℕ → S → Type 0) (old : S) (n : ℕ)
    (block : Place H) (lines : List (List ℕ)) (before : DeviceOutput (List ℕ)) (new : S) (m : ℕ) (next : Place H)
    (after : DeviceOutput (List ℕ)) : Type 0 where
  pub done : List A
  pub text : List ℕ
  pub runs : PerformsAll performs old done text new
  pub written : Sends logs before after text
  pub asks : (ending : Ending) (more : List (List ℕ))
      → script_from language ending (n + 1) block (lines ++ more)
      ≡ with_actions_first done (script_from language ending (m + 1) next more)
  pub count : n + length lines ≡ m

-- how far a run has come from one place of a script to another: the lines are done that the bytes ahead have in front
-- of those of the bytes left, however the script goes on
pub record Came {A H S : Type 0} (language : Language A H) (performs : S → A → List ℕ → S → Type 0) (old : S) (n : ℕ)
    (block : Place H) (ahead : List ℕ) (before : DeviceOutput (List ℕ)) (new : S) (m : ℕ) (next : Place H)
    (left : List ℕ) (after : DeviceOutput (List ℕ)) : Type 0 where
  pub lines : List (List ℕ)
  pub met : (ending : Ending) (rest : List ℕ)
      → lines_met ending (ahead ++ rest) ≡ lines ++ lines_met ending (left ++ rest)
  pub took : Took language performs old n block lines before new m next after

-- stopped without memory at one of these lines: those in front of it are done, and some of its own actions; and it
-- isn't a bad one
pub record HaltedAt {A H S : Type 0} (language : Language A H) (performs : S → A → List ℕ → S → Type 0) (old : S)
    (n : ℕ) (block : Place H) (lines : List (List ℕ)) (before after : DeviceOutput (List ℕ)) : Type 0 where
  pub line : ℕ
  pub within : line < length lines
  pub led : (script_from language Failed (n + 1) block (take line lines)).fault ≡ Some Read
  pub good : (script_from language Failed (n + 1) block (take (line + 1) lines)).fault ≡ Some (BadLine (n + line + 1))
      → ⊥
  pub own : List A
  pub left : List A
  pub asked : (script_from language Failed (n + 1) block (take (line + 1) lines)).actions
      ≡ (script_from language Failed (n + 1) block (take line lines)).actions ++ own ++ left
  pub done : SentAll performs old ((script_from language Failed (n + 1) block (take line lines)).actions ++ own) before
      after

-- how a run stopped in these lines, after n others, where some of its transcript may wait yet
unfoldable pub Halts : {A H S : Type 0} → Language A H → (S → A → List ℕ → S → Type 0) → S → Ending → ℕ → Place H
    → List (List ℕ) → RunFault → DeviceOutput (List ℕ) → DeviceOutput (List ℕ) → Type 0
Halts language performs old ending n block lines Memory before after =
    HaltedAt language performs old n block lines before after
Halts language performs old ending n block lines Write before after =
    (k : ℕ) × SentSome performs old (take k (script_from language ending (n + 1) block lines).actions) before after
Halts language performs old ending n block lines fault before after =
    ((script_from language ending (n + 1) block lines).fault ≡ Some fault)
    × SentAll performs old (script_from language ending (n + 1) block lines).actions before after

-- how it ended
abbrev pub Closes : {A H S : Type 0} → Language A H → (S → A → List ℕ → S → Type 0) → S → Ending → ℕ → Place H
    → List (List ℕ) → Result Summary RunFault → DeviceOutput (List ℕ) → DeviceOutput (List ℕ) → Type 0
Closes language performs old ending n block lines (Ok summary) before after =
    ((script_from language ending (n + 1) block lines).fault ≡ None) × (summary.lines ≡ n + length lines)
    × SentAll performs old (script_from language ending (n + 1) block lines).actions before after
Closes language performs old ending n block lines (Err fault) before after =
    Halts language performs old ending n block lines fault before after

-- a run stopped at such a place, however the script goes on
pub record Stopped {A H S : Type 0} (language : Language A H) (performs : S → A → List ℕ → S → Type 0) (old : S) (n : ℕ)
    (block : Place H) (ahead : List ℕ) (fault : RunFault) (before after : DeviceOutput (List ℕ)) : Type 0 where
  pub stops : (ending : Ending) (rest : List ℕ)
      → Halts language performs old ending n block (lines_met ending (ahead ++ rest)) fault before after

-- before each read of these calls there was no reason to read no more, and the lines complete until then were done and
-- written
abbrev pub InTime : {A H S : Type 0} → Language A H → (S → A → List ℕ → S → Type 0) → S → List DeviceCall → Type 0
InTime language performs start calls =
    (before after : List DeviceCall) (bytes : Option (List ℕ)) → calls ≡ before ++ Reading bytes ∷ after
    → ((why : Ending) → IsEnding before why → ⊥)
    × EndsScript language performs start Failed (given before) (Err Read) (taken before)

-- what a run from a script's beginning has read so far, and how far it has come in that: nothing waits
pub record SeenSoFar {A H S D : Type 0} (language : Language A H) (performs : S → A → List ℕ → S → Type 0) (start : S)
    (reads writes : D → Option (List ℕ) → D → Type 0) (before now : D) (read : ℕ) (new : S) (m : ℕ) (next : Place H)
    (part : List ℕ) : Type 0 where
  pub calls : List DeviceCall
  pub made : FoldsTo (did reads writes) before calls now
  pub len : length (given calls) ≡ read
  pub unended : (why : Ending) → IsEnding calls why → ⊥
  pub in_time : InTime language performs start calls
  pub came : Came language performs start 0 first_place (given calls)
      (device_output [] []) new m next part (device_output (taken calls) [])
