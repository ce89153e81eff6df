-- The base register and displacement that stand for a place (GC33-4010, "USING -- Use Base Address Register",
-- "Addressing").
use Rattle.std.specs.Prelude.{ℕ, ℤ, pos, ◌-ℤ◌, int_le, unsigned_abs, ◌&&◌, nat_lt, if◌then◌else◌, Option, Some, None, Result, List, map, fold, option_map}
use Rattle.std.specs.List.{enumerate_from}
use Rattle.std.specs.Option.{ok_or}
use Rattle.cx_asm_expressions.specs.Names.{is_same}
use Rattle.cx_asm_expressions.specs.declared.values.Value.{Value}
use Rattle.cx_asm_expressions.specs.declared.faults.FaultKind.{FaultKind}
use Rattle.cx_asm_expressions.specs.declared.faults.FaultKind.TheVariants.{NoAddressability, ValueOutOfRange}
use Rattle.cx_asm_operands.specs.Bases.{Bases}
use Rattle.cx_asm_operands.specs.declared.bases.Base.{Base}
use Rattle.cx_asm_operands.specs.declared.addresses.Address.{Address}

abbrev pub address : ℕ → ℕ → Address
address register displacement = record { base = register; displacement = displacement }

-- a number from 0 to `most`
abbrev pub number_within : ℕ → ℤ → Option ℕ
number_within most number =
    if int_le (pos 0) number && int_le number (pos most) then Some (unsigned_abs number) else None

-- the address of a place by one register, where it is in use for the place's section and at most 4,095 before the place
abbrev pub address_by_base : List ℕ → ℤ → ℕ → Option Base → Option Address
address_by_base section number register None = None
address_by_base section number register (Some base) =
    if is_same base.section section then option_map (address register) (number_within 4095 (number -ℤ base.number))
    else None

-- Of two addresses the one with the smaller displacement; of equal ones the second, whose register is higher.
abbrev pub nearer : Option Address → Option Address → Option Address
nearer None other = other
nearer (Some one) None = Some one
nearer (Some one) (Some other) = if nat_lt one.displacement other.displacement then Some one else Some other

-- The address of a place: of the registers in use for its section that reach it, the one with the smallest
-- displacement, and of those the highest. The law `an_implied_address_is_nearest` says it without a walk.
unfoldable pub nearest_address : Bases → List ℕ → ℤ → Option Address
nearest_address bases section number =
    fold nearer None (map (λ e. address_by_base section number e.0 e.1) (enumerate_from 0 bases))

-- An absolute number stands for itself, with register 0 as base, whatever is in use.
abbrev pub address_by_bases : Bases → Option (List ℕ) → ℤ → Result Address FaultKind
address_by_bases bases None number = ok_or (option_map (address 0) (number_within 4095 number)) ValueOutOfRange
address_by_bases bases (Some section) number = ok_or (nearest_address bases section number) NoAddressability

-- the implied address of a value
abbrev pub implied_address : Bases → Value → Result Address FaultKind
implied_address bases value = address_by_bases bases value.section value.number
