-- The language of a script: what its lines ask where they are not in a block, and what the end of a block asks (own).
use Rattle.std.specs.Prelude.{ℕ, Bool, false, Option, None, List, [], ◌∷◌}
use Rattle.cx_script_actions.specs.Actions.{line_of}
use Rattle.cx_script_actions.specs.declared.actions.Action.{Action}
use Rattle.cx_script_actions.specs.declared.actions.Line.{Line}
use Rattle.cx_script_actions.specs.declared.actions.NoHeading.{NoHeading}

-- A is an action, and H what begins a block of lines that are handed over.
pub record Language (A H : Type 0) : Type 0 where
  -- what a line asks, by its number and its text; None where it is a bad line
  pub line_of : ℕ → List ℕ → Option (Line A H)
  -- the action that the end of a block gives, as one of these
  pub of_block : Action → A
  -- the action that the end of a source's block gives: by its program's name, its lines, and what they are made into
  pub of_source : List ℕ → List (List ℕ) → Action → A
  -- the lines of a block of lines with one more, as far as they are kept, by what begins it; None where it may not have
  -- that line
  pub with_line : H → List (List ℕ) → List ℕ → Option (List (List ℕ))
  -- the action that the end of a block of lines gives: by the number of the line that begins it, what this says, and
  -- the lines that were kept; None where such a block asks nothing
  pub of_lines : ℕ → H → List (List ℕ) → Option A
  -- the actions that a line asks, one after another, by the first of them
  pub actions_of : A → List A
  -- whether an action's line is a fault that is deferred: the script goes on, and the first such line is its fault at
  -- the end, where it has no other
  pub is_deferred_fault : A → Bool

-- that of `cicsedf`, where a line asks one action; without blocks of lines, and without deferred faults
abbrev pub edf_language : Language Action NoHeading
edf_language =
    record {
      line_of = λ number text. line_of text;
      of_block = λ a. a;
      of_source = λ name lines a. a;
      with_line = λ heading lines text. None;
      of_lines = λ first heading lines. None;
      actions_of = λ a. a ∷ [];
      is_deferred_fault = λ a. false;
    }
