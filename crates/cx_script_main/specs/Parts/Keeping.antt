-- Devices of which what was read is kept.
use Rattle.std.specs.Prelude.{◌≡◌, ℕ, List, [], ◌++◌, Option, Some, IfSome, unwrap_or}
use Rattle.std.specs.Option.{option_map}
use Rattle.cx_script_main.specs.declared.keeping.Keeping.{Keeping}

-- What is kept after a read, if anything is: what was kept before it, and then the bytes that it gave. Nothing is kept
-- any more once memory was refused.
abbrev pub KeepsBytesRead : Option (List ℕ) → Option (List ℕ) → Option (List ℕ) → Type 0
KeepsBytesRead before given after =
    IfSome after (λ bytes. option_map (λ kept. kept ++ unwrap_or given []) before ≡ Some bytes)

-- a read of the devices, whose bytes are kept
abbrev pub KeepsRead : {D : Type 0} → (D → Option (List ℕ) → D → Type 0) → Keeping D → Option (List ℕ) → Keeping D
    → Type 0
KeepsRead reads before given after =
    reads before.devices given after.devices × KeepsBytesRead before.kept given after.kept

-- a write, which leaves what is kept
abbrev pub LeavesKept : {D : Type 0} → (D → Option (List ℕ) → D → Type 0) → Keeping D → Option (List ℕ) → Keeping D
    → Type 0
LeavesKept writes before taken after =
    writes before.devices taken after.devices × (after.kept ≡ before.kept)
