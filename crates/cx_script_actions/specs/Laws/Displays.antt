-- What DISPLAY writes is seen of the terminal's session alone: of what was kept at a stop, and of none of the region as
-- it is now.
use Rattle.std.specs.Prelude.{◌≡◌, ℕ, List}
use Rattle.cx_edf.specs.State.{EdfState, session_at}
use Rattle.cx_edf.specs.Steps.{DisplayMaker}
use Rattle.cx_script_actions.specs.declared.actions.Action.{Action}
use Rattle.cx_script_actions.specs.declared.actions.Action.TheVariants.{Display, Previous}
use Rattle.cx_script_actions.specs.Effects.{Performs}

-- where a terminal has the same session, an action writes the same, whatever displays are
abbrev pub IsOfTheSession : Action → List ℕ → Type 0
IsOfTheSession action name =
    (make : DisplayMaker) (one other after later : EdfState) (text written : List ℕ)
    → session_at one name ≡ session_at other name
    → Performs make one action text after → Performs make other action written later → text ≡ written

-- the shown page, and the main page of an earlier display
abbrev pub DisplayIsTheSessions : Type 0
DisplayIsTheSessions = (name : List ℕ) → IsOfTheSession (Display name) name

-- a display before the newest is the session's too
abbrev pub PreviousIsTheSessions : Type 0
PreviousIsTheSessions = (name : List ℕ) (back : ℕ) → IsOfTheSession (Previous name back) name
