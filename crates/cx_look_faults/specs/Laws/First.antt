-- The fault that a source is refused for (own).
use Rattle.std.specs.Prelude.{◌≡◌, ◌⊎◌, Option, Some, None, List, [], ◌∷◌}
use Rattle.cx_asm_build.specs.declared.faults.PrepareFault.{PrepareFault}
use Rattle.cx_asm_build.specs.declared.faults.PrepareFault.TheVariants.{At}
use Rattle.cx_look_faults.specs.declared.faults.FaultyLine.{FaultyLine}

abbrev pub prepare_fault_of : FaultyLine → PrepareFault
prepare_fault_of faulty = At faulty.line faulty.kind

-- one of the lines has the fault
abbrev pub Has : PrepareFault → List FaultyLine → Type 0
Has fault [] = ⊥
Has fault (faulty ∷ more) = (prepare_fault_of faulty ≡ fault) ⊎ Has fault more

-- a fault is that of one of the lines; without one there is no line
abbrev pub IsAmong : Option PrepareFault → List FaultyLine → Type 0
IsAmong None faults = faults ≡ []
IsAmong (Some fault) faults = Has fault faults
