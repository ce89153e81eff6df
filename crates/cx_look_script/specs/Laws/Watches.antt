-- WATCH changes nothing that another line does or writes itself (own).
use Rattle.std.specs.Prelude.{◌≡◌, ℕ, Bool, true, false, List}
use Rattle.cx_look_ahead.specs.declared.rows.Row.{Row}
use Rattle.cx_look_ahead.specs.declared.watching.Cause.{Cause}
use Rattle.cx_edf.specs.Steps.{DisplayMaker}
use Rattle.cx_look_script.specs.Looking.{Acts}
use Rattle.cx_look_script.specs.State.{LookState}
use Rattle.cx_look_script.specs.Watched.{IsWatchedText}
use Rattle.cx_look_script.specs.declared.action.LookAction.{LookAction}
use Rattle.cx_look_script.specs.declared.action.LookAction.TheVariants as action

abbrev pub is_watch : LookAction → Bool
is_watch (action.Watch w) = true
is_watch _ = false

-- the same, with these ranges watched
abbrev pub watching : LookState → List Row → LookState
watching state ranges = record state { watched = ranges }

-- Whatever is watched, an action that is no WATCH does the same and has the same text of its own: that of a look is the
-- same, and so is an abend that is kept. It leaves what is watched.
abbrev pub WatchesChangeNothing : Type 0
WatchesChangeNothing = (make : DisplayMaker) (old : LookState) (a : LookAction) (own : List ℕ) (new : LookState)
    (ranges : List Row) → is_watch a ≡ false → Acts make old a own new
    → Acts make (watching old ranges) a own (watching new ranges)

abbrev pub WatchesStay : Type 0
WatchesStay = (make : DisplayMaker) (old : LookState) (a : LookAction) (own : List ℕ) (new : LookState)
    → is_watch a ≡ false → Acts make old a own new → new.watched ≡ old.watched

-- what is written of the bytes that are watched is a function of the two states
abbrev pub WatchedTextsDecide : Type 0
WatchedTextsDecide = (old new : LookState) (by : Cause) (one other : List ℕ)
    → IsWatchedText old by new one → IsWatchedText old by new other → one ≡ other
