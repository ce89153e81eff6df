-- The runs of free granules of a page, those of which no byte is counted.
use Rattle.std.specs.Prelude.{◌≡◌, ◌+◌, ◌-◌, ◌<◌, ◌≤◌, ℕ, List, Option, Some, None, ⊤, slice_index}
use Rattle.cx_storage_pages.specs.declared.frame.Runs.{Runs}

-- whether no granule from one up to, but not including, a second has a byte
abbrev pub AllFree : List ℕ → ℕ → ℕ → Type 0
AllFree counts from to = (j : ℕ) → from ≤ j → j < to → slice_index counts j ≡ 0

-- the runs of free granules among the first m: none is longer than the longest, and the last tail granules are one
pub record IsRunsTo (counts : List ℕ) (m longest tail : ℕ) : Type 0 where
  pub bound : (k n : ℕ) → k + n ≤ m → AllFree counts k (k + n) → n ≤ longest
  pub order : tail ≤ longest
  pub within : tail ≤ m
  pub short : longest ≤ m
  pub free : AllFree counts (m - tail) m
  pub most : (k : ℕ) → k ≤ m → AllFree counts k m → m ≤ k + tail

abbrev pub IsRuns : List ℕ → ℕ → ℕ → Type 0
IsRuns counts longest tail = IsRunsTo counts 256 longest tail

-- what a frame knows of its runs
abbrev pub RunsAre : Option Runs → List ℕ → Type 0
RunsAre None counts = ⊤
RunsAre (Some runs) counts = IsRuns counts runs.longest runs.tail
