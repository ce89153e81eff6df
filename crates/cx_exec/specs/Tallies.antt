-- How often instructions are run (own).
use Rattle.std.specs.Prelude.{◌≡◌, ℕ, ◌+◌, ◌-◌, ◌^◌, min, Bool, if◌then◌else◌, unwrap_or, List, fold, slice_get, slice_set}
use Rattle.cx_exec.specs.Machine.{Machine}
use Rattle.cx_exec.specs.Passages.{Passage, Passages, places_run, went_away}
use Rattle.cx_exec.specs.declared.tallied.Tally.{Tally}

-- a count that goes no further than 2^64 - 1
abbrev pub capped : ℕ → ℕ
capped n = min n (2 ^ 64 - 1)

abbrev pub tally : ℕ → ℕ → Tally
tally runs away = record { runs = runs; away = away }

abbrev pub no_runs : Tally
no_runs = tally 0 0

-- one run more, after which the machine went elsewhere or not
abbrev pub tally_after : Bool → Tally → Tally
tally_after goes_away t = tally (capped (t.runs + 1)) (if goes_away then capped (t.away + 1) else t.away)

-- ---- by address
-- tallies in the order of addresses, from 0 on; beyond their end there is no run
abbrev pub tally_at : List Tally → ℕ → Tally
tally_at tallies address = unwrap_or (slice_get tallies address) no_runs

-- with one run more at an address; beyond their end none is counted
unfoldable pub with_run : Bool → List Tally → ℕ → List Tally
with_run goes_away tallies address = slice_set tallies address (tally_after goes_away (tally_at tallies address))

-- with one run more at each place where a passage runs an instruction
abbrev pub with_passage : List Tally → Passage → List Tally
with_passage tallies p = fold (with_run (went_away p)) tallies (places_run p)

-- after a run of at most so many steps
pub record IsTallied (limit : ℕ) (m : Machine) (old new : List Tally) : Type 0 where
  pub passages : List Passage
  pub are : Passages limit m passages
  pub is : new ≡ fold with_passage old passages
