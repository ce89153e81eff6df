-- What is known of runs is a proposition.
use Rattle.std.specs.Prelude.{◌+◌, ◌-◌, ◌≤◌, ℕ, List, Option, Some, None, slice_index}
use Rattle.std.specs.Coded.{Π_prop, Unit-prop, le_prop, coded_ℕ, Coded-set}
use Rattle.cx_storage_pages.specs.declared.frame.Runs.{Runs}
use Rattle.cx_storage_pages.specs.Parts.Runs.{AllFree, IsRuns, RunsAre}

pub IsRuns-prop : (counts : List ℕ) (longest tail : ℕ) → IsProp (IsRuns counts longest tail)
IsRuns-prop counts longest tail =
    let bound : IsProp ((k n : ℕ) → k + n ≤ 256 → AllFree counts k (k + n) → n ≤ longest) = Π_prop (λ k. Π_prop (λ n. Π_prop (λ _. Π_prop (λ _. le_prop)))) in
    let free : IsProp (AllFree counts (256 - tail) 256) = Π_prop (λ j. Π_prop (λ _. Π_prop (λ _. Coded-set coded_ℕ (slice_index counts j) 0))) in
    let most : IsProp ((k : ℕ) → k ≤ 256 → AllFree counts k 256 → 256 ≤ k + tail) = Π_prop (λ k. Π_prop (λ _. Π_prop (λ _. le_prop))) in
    hlevel (bound, free, most, le_prop)

pub AllFree-prop : (counts : List ℕ) (from : ℕ) → IsProp (AllFree counts from 256)
AllFree-prop counts from = Π_prop (λ j. Π_prop (λ _. Π_prop (λ _. Coded-set coded_ℕ (slice_index counts j) 0)))

pub RunsAre-prop : (known : Option Runs) (counts : List ℕ) → IsProp (RunsAre known counts)
RunsAre-prop None counts = Unit-prop
RunsAre-prop (Some runs) counts = IsRuns-prop counts runs.longest runs.tail
