-- A run of a script: what its actions did in order, and the transcript (own).
use Rattle.std.specs.Prelude.{◌≡◌, ℕ, ◌+◌, ◌<◌, Some, None, Result, Ok, Err, List, [], ◌∷◌, ◌++◌, length, take}
use Rattle.cx_script_io.specs.Lines.{lines_met}
use Rattle.cx_script_io.specs.declared.input.Ending.{Ending}
use Rattle.cx_script_io.specs.declared.input.Ending.TheVariants.{Failed}
use Rattle.cx_script.specs.Script.{Script, first_place, script_from, script_in}
use Rattle.cx_script_actions.specs.Language.{Language}
use Rattle.cx_script_blocks.specs.declared.faults.RunFault.{RunFault}
use Rattle.cx_script_blocks.specs.declared.faults.RunFault.TheVariants.{BadLine, Read, Write, Memory}
use Rattle.cx_script_blocks.specs.declared.faults.Summary.{Summary}

-- Actions one after another on some state, and the transcript: what each writes, in order. `performs` is one action:
-- the state before, the action, what is written for it, and the state after.
unfoldable pub PerformsAll : {S A : Type 0} → (S → A → List ℕ → S → Type 0) → S → List A → List ℕ → S → Type 0
PerformsAll performs old [] text new = (text ≡ []) × (new ≡ old)
PerformsAll {S} performs old (action ∷ actions) text new =
    (between : S) × (first : List ℕ) × (rest : List ℕ)
    × performs old action first between × PerformsAll performs between actions rest new × (text ≡ first ++ rest)

-- these actions were done, and of their transcript that was written which `Writes` says
pub record Wrote {A S : Type 0} (Writes : List ℕ → Type 0) (performs : S → A → List ℕ → S → Type 0)
    (old : S) (actions : List A) : Type 0 where
  pub text : List ℕ
  pub new : S
  pub runs : PerformsAll performs old actions text new
  pub written : Writes text

-- these bytes are a front of a text
abbrev pub IsFront : List ℕ → List ℕ → Type 0
IsFront bytes text = (n : ℕ) × (bytes ≡ take n text)

-- what the first n lines ask, as if no more could be read
abbrev pub front_of : {A H : Type 0} → Language A H → List (List ℕ) → ℕ → Script A
front_of language lines n = script_from language Failed 1 first_place (take n lines)

-- A run without memory stopped at a line: those in front of it have no fault, and are done and written, and so are the
-- actions of the line's own in front of the one that had no memory; and it isn't a bad one.
pub record StoppedAt {A H S : Type 0} (language : Language A H) (performs : S → A → List ℕ → S → Type 0) (old : S)
    (lines : List (List ℕ)) (written : List ℕ) : Type 0 where
  -- how many are in front of it
  pub line : ℕ
  pub within : line < length lines
  pub led : (front_of language lines line).fault ≡ Some Read
  pub good : (front_of language lines (line + 1)).fault ≡ Some (BadLine (line + 1)) → ⊥
  -- of its own actions those that are done, and the others
  pub own : List A
  pub left : List A
  pub asked : (front_of language lines (line + 1)).actions ≡ (front_of language lines line).actions ++ own ++ left
  pub done : Wrote (◌≡◌ written) performs old ((front_of language lines line).actions ++ own)

-- How a run of the script that these bytes are ended, and what it wrote. Ok: all of its actions are done and written.
-- Without memory it stopped at an action of a line; after a failed write some of its actions are done, and a front of
-- their transcript is written; any other fault is the script's own, and everything in front of it is done and written.
unfoldable pub EndsScript : {A H S : Type 0} → Language A H → (S → A → List ℕ → S → Type 0) → S → Ending → List ℕ
    → Result Summary RunFault → List ℕ → Type 0
EndsScript language performs old ending bytes (Ok summary) written =
    let script = script_in language ending bytes in
    (script.fault ≡ None) × (summary.lines ≡ length (lines_met ending bytes))
    × Wrote (◌≡◌ written) performs old script.actions
EndsScript language performs old ending bytes (Err Memory) written =
    StoppedAt language performs old (lines_met ending bytes) written
EndsScript language performs old ending bytes (Err Write) written =
    (n : ℕ) × Wrote (IsFront written) performs old (take n (script_in language ending bytes).actions)
EndsScript language performs old ending bytes (Err fault) written =
    let script = script_in language ending bytes in
    (script.fault ≡ Some fault) × Wrote (◌≡◌ written) performs old script.actions
