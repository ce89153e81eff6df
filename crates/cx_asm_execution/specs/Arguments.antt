-- What an operand addresses by its own expression (OS/VS-DOS/VSE-VM/370 Assembler Language, GC33-4010, "Addressing",
-- "Operand Fields and Subfields"; GA22-7000, "Address Generation").
use Rattle.std.specs.Prelude.{◌≡◌, ℕ, ℤ, pos, ◌+ℤ◌, true, Ok, Option, Some, None, List, [], ◌∷◌, slice_get}
use Rattle.cx_storage.specs.Address.{address_in, address_after}
use Rattle.cx_exec.specs.Machine.{effective, address_part}
use Rattle.cx_asm_expressions.specs.declared.values.Value.{Value}
use Rattle.cx_asm_operands.specs.Bases.{Bases}
use Rattle.cx_asm_operands.specs.Context.{Context, number_at_most, register_in}
use Rattle.cx_asm_operands.specs.Storage.{Operand, index_in, operand_in}
use Rattle.cx_asm_operands.specs.declared.addresses.Address.{Address}
use Rattle.cx_asm_operands.specs.declared.bases.Base.{Base}

-- Where sections are: the address of each offset in a section. An offset n bytes past a second one has the address
-- n bytes past its address.
pub record Sections : Type 0 where
  pub place : List ℕ → ℤ → ℕ
  pub after : (name : List ℕ) (offset : ℤ) (n : ℕ) → place name (offset +ℤ pos n) ≡ address_after (place name offset) n

-- a register that is in use as a base holds the address of its USING's base
abbrev pub HoldsBase : Sections → List ℕ → Bases → ℕ → Type 0
HoldsBase sections regs bases register = (base : Base) → slice_get bases register ≡ Some (Some base)
    → address_in (address_part regs register) ≡ sections.place base.section base.number

-- Index, base and displacement give a value's address, with what the index holds: a number itself; the place of an
-- offset in a section, where the base register that was taken holds its base.
abbrev pub IsPlaceOf : Sections → List ℕ → Bases → Option (List ℕ) → ℤ → ℕ → Address → Type 0
IsPlaceOf sections regs bases None number x at =
    (n : ℕ) → number ≡ pos n → effective regs x at.base at.displacement ≡ address_after n (address_part regs x)
IsPlaceOf sections regs bases (Some section) number x at =
    HoldsBase sections regs bases at.base
    → effective regs x at.base at.displacement ≡ address_after (sections.place section number) (address_part regs x)

-- by what is in parentheses after the expression: nothing, an index, an index and a base
abbrev pub IsAddressedBy : Sections → List ℕ → Context → Value → List (List ℕ) → ℕ → Address → Type 0
IsAddressedBy sections regs c value [] x at = (x ≡ 0) × IsPlaceOf sections regs c.bases value.section value.number x at
IsAddressedBy sections regs c value (index ∷ []) x at =
    (register_in c index ≡ Ok x) × IsPlaceOf sections regs c.bases value.section value.number x at
IsAddressedBy sections regs c value (index ∷ base ∷ []) x at =
    (index_in c index ≡ Ok x) × (register_in c base ≡ Ok at.base) × (number_at_most 4095 value ≡ Ok at.displacement)
IsAddressedBy sections regs c value subfields x at = ⊥

-- An operand of an instruction of the format RX, as it is written, and the index, base and displacement that it is
-- resolved to.
pub record IsAddressed (sections : Sections) (regs : List ℕ) (c : Context) (text : List ℕ) (x : ℕ)
    (at : Address) : Type 0 where
  pub operand : Operand
  pub is : operand_in true c text ≡ Some operand
  pub value : Value
  pub expression_value : operand.place ≡ Ok value
  pub by : IsAddressedBy sections regs c value operand.subfields x at
