-- What an implied address is, in the manual's words: "the assembler uses the base register that gives the smallest
-- displacement, and of several the highest-numbered one".
use Rattle.std.specs.Prelude.{◌≡◌, ℕ, ℤ, pos, ◌+ℤ◌, ◌<◌, ◌≤◌, true, ◌⊎◌, Option, Some, None, List, slice_get}
use Rattle.cx_asm_expressions.specs.Names.{is_same}
use Rattle.cx_asm_operands.specs.Bases.{Bases}
use Rattle.cx_asm_operands.specs.declared.bases.Base.{Base}
use Rattle.cx_asm_operands.specs.declared.addresses.Address.{Address}

-- what a register holds, and this displacement, 0 to 4,095, are the place
abbrev pub Holds : Option (Option Base) → List ℕ → ℤ → ℕ → Type 0
Holds None section number displacement = ⊥
Holds (Some None) section number displacement = ⊥
Holds (Some (Some base)) section number displacement =
    (is_same base.section section ≡ true) × (base.number +ℤ pos displacement ≡ number) × (displacement ≤ 4095)

-- the register reaches the place with this displacement
abbrev pub Reaches : Bases → List ℕ → ℤ → ℕ → ℕ → Type 0
Reaches bases section number register displacement = Holds (slice_get bases register) section number displacement

-- No register with this displacement is to be preferred: the address has a smaller one, or the same one and no lower
-- register.
abbrev pub IsPreferred : Address → ℕ → ℕ → Type 0
IsPreferred address register displacement =
    (address.displacement < displacement) ⊎ ((address.displacement ≡ displacement) × (register ≤ address.base))

abbrev pub IsNearest : Bases → List ℕ → ℤ → Option Address → Type 0
IsNearest bases section number None =
    (register displacement : ℕ) → Reaches bases section number register displacement → ⊥
IsNearest bases section number (Some address) =
    Reaches bases section number address.base address.displacement
    × ((register displacement : ℕ) → Reaches bases section number register displacement
    → IsPreferred address register displacement)
