use Rattle.std.proofs.Common.{◌≡◌, ℕ, ◌≤◌, ◌-◌, ◌++◌, List, ◌∷◌, length}
use Rattle.cx_storage.specs.Storage.{Storage, end_of}
use Rattle.cx_storage_snapshot.specs.Parts.Copies.{EndBefore, StartAfter, partly}
use Rattle.cx_storage_snapshot.proofs.writing.fill.Given as goal

-- the first k bytes are written
abbrev pub invariant-loop-k : goal.invariant-loop-k
invariant-loop-k g l =
    (l.k ≤ length l.bytes)
    × ((others later : Storage) (old : List ℕ) → EndBefore l.area.start others → StartAfter (end_of l.area) later → length old ≡ l.area.len
    → g.S.Store.storage l.initial.store ≡ others ++ partly l.area l.bytes old 0 ∷ later → g.S.Store.storage l.store ≡ others ++ partly l.area l.bytes old l.k ∷ later)

abbrev pub decreases-loop-k : goal.decreases-loop-k
decreases-loop-k g l = length l.bytes - l.k
