-- There is one list of passages of a run, and so one outcome of what is counted or noted by them.
use Rattle.std.specs.Prelude.{◌≡◌, ℕ, List}
use Rattle.cx_storage.specs.Storage.{Storage}
use Rattle.cx_exec.specs.Machine.{Machine}
use Rattle.cx_exec.specs.Passages.{Passage, Passages}
use Rattle.cx_exec.specs.Tallies.{IsTallied}
use Rattle.cx_exec.specs.Watches.{IsWatched}
use Rattle.cx_exec.specs.declared.tallied.Tally.{Tally}

abbrev pub PassagesDecide : Type 0
PassagesDecide = (limit : ℕ) (m : Machine) (passages others : List Passage)
    → Passages limit m passages → Passages limit m others → passages ≡ others

abbrev pub TalliesDecide : Type 0
TalliesDecide = (limit : ℕ) (m : Machine) (old new other : List Tally)
    → IsTallied limit m old new → IsTallied limit m old other → new ≡ other

-- of what is noted in this way
abbrev pub WatchesDecide : {V : Type 0} → (Storage → ℕ → V → V) → Type 0
WatchesDecide {V} noted = (limit : ℕ) (m : Machine) (old new other : V)
    → IsWatched noted limit m old new → IsWatched noted limit m old other → new ≡ other
