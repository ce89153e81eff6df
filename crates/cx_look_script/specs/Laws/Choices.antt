-- What is written for a block of CHOICES is one text.
use Rattle.std.specs.Prelude.{◌≡◌, ℕ, List}
use Rattle.cx_look.specs.declared.choices.ChoicesBlock.{ChoicesBlock}
use Rattle.cx_look_script.specs.Looking.{ShowsChoices}
use Rattle.cx_look_script.specs.State.{LookState}

-- the text for a block is a function of the state
abbrev pub ChoicesAreReportedOnce : Type 0
ChoicesAreReportedOnce = (block : ChoicesBlock) (state : LookState) (one other : List ℕ)
    → ShowsChoices block state one → ShowsChoices block state other → one ≡ other
