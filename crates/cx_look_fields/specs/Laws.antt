-- Where a field is, what is written of one that was kept, and what WHERE reports (own).
use Rattle.std.specs.Prelude.{◌≡◌, ◌≤◌, ◌<◌, ◌^◌, ◌+◌, ℕ, min, true, false, Some, None, Ok, List, [], ◌∷◌, ◌++◌, option_and_then, option_map, reverse, Option}
use Rattle.std.specs.List.{AllByRecursion}
use Rattle.cx_exec.specs.Machine.{effective}
use Rattle.cx_storage.specs.Storage.{Storage, span}
use Rattle.cx_source.specs.declared.source.Source.{Source}
use Rattle.cx_asm_expressions.specs.declared.values.Value.{Value}
use Rattle.cx_asm_operands.specs.Context.{Context}
use Rattle.cx_asm_operands.specs.Storage.{operand, operand_in, plain_in}
use Rattle.cx_asm_operands.specs.declared.addresses.Address.{Address}
use Rattle.cx_asm_pass1.specs.Locations.{final_state}
use Rattle.cx_asm_pass2.specs.SecondFaults.{bases_after_all}
use Rattle.cx_asm_pass2.specs.Statements.{PlacedStatement, statements_of}
use Rattle.cx_asm_pass2.specs.Whole.{instruction_context, whole_of}
use Rattle.cx_look_fields.specs.declared.readings.NamedReading.{NamedReading}
use Rattle.cx_look_fields.specs.Fields.{fields_in, stands_at, is_field, own_offset}
use Rattle.cx_look_fields.specs.FieldTexts.{field_line, named_field, typed}
use Rattle.cx_look_fields.specs.KeptFields.{kept_field, kept_line}
use Rattle.cx_storage.specs.Address.{distance}
use Rattle.cx_look_symbols.specs.Placed.{placed_in}
use Rattle.cx_look_symbols.specs.Symbols.{Rows, SourceSymbols, named_in, symbols_of}
use Rattle.cx_look_symbols.specs.declared.rows.Symbol.{Symbol}
use Rattle.cx_look_fields.specs.declared.fields.Field.{Field}
use Rattle.cx_look_fields.specs.declared.standing.Standing.{Standing}
use Rattle.cx_look_fields.specs.Addresses.{near_label, nearest_field, nearest_label}
use Rattle.cx_look_fields.specs.declared.nearest.Near.{Near}

-- the statement that has the byte at an offset: none in front of it has the byte
pub record IsStatementAt (source : Source) (offset : ℕ) (before : List PlacedStatement) (s : PlacedStatement)
    (after : List PlacedStatement) : Type 0 where
  pub among : statements_of source ≡ before ++ s ∷ after
  pub there : stands_at (whole_of source) offset s ≡ true
  pub first : AllByRecursion (λ other. stands_at (whole_of source) offset other ≡ false) before

-- what an instruction's operands are read by there
abbrev pub context_at : Source → List PlacedStatement → PlacedStatement → Context
context_at source before s =
    instruction_context (whole_of source) (bases_after_all (whole_of source) (reverse before)) s

-- the field that FIELD finds where a level with these registers is there
abbrev pub field_in : Source → List ℕ → ℕ → List ℕ → Option Field
field_in source regs offset name =
    option_map (λ it. it.field) (option_and_then (named_field name) (fields_in regs offset source))

-- Of an operand that has a symbol's value, without a base or an index, the assembler makes a base and a displacement:
-- their address is the field's.
abbrev pub FieldsAreOperands : Type 0
FieldsAreOperands =
    (source : Source) (offset : ℕ) (before : List PlacedStatement) (s : PlacedStatement) (after : List PlacedStatement)
    → (regs name text : List ℕ) (value : Value) (address : Address) → IsStatementAt source offset before s after
    → (final_state source).fault ≡ None → (whole_of source).find name ≡ Some value
    → operand_in true (context_at source before s) text ≡ Some (operand (Ok value) [])
    → plain_in true (context_at source before s) text ≡ Ok address
    → field_in source regs offset name
    ≡ Some (record { address = effective regs 0 address.base address.displacement; length = value.length })

-- Of a field that is all in the bytes that were kept of a storage, what is written is what FIELD writes in that
-- storage.
abbrev pub KeptFieldsAreOfStorage : Type 0
KeptFieldsAreOfStorage =
    (s : Storage) (at count : ℕ) (bytes term : List ℕ) (readings : List NamedReading) (name : List ℕ) (value : Value)
    → (offset : ℕ) → at < 2 ^ 24 → span s at count ≡ Some bytes → offset + min 32 value.length ≤ count
    → kept_line term readings at bytes name value offset
    ≡ field_line s term name (typed readings name (kept_field at offset value))

-- ---- the nearest of some names: `Has` says of a name that it is there, and how many bytes after its first the place
-- is. It is the one that begins last, and of equal ones the first.
pub record IsNearestSymbol (Has : List ℕ × Symbol → ℕ → Type 0) (rows : Rows) (near : Near) : Type 0 where
  pub before : Rows
  pub symbol : Symbol
  pub after : Rows
  pub among : rows ≡ before ++ (near.name, symbol) ∷ after
  pub has : Has (near.name, symbol) near.distance
  pub nearer : AllByRecursion (λ row. (n : ℕ) → Has row n → near.distance < n) before
  pub as_near : AllByRecursion (λ row. (n : ℕ) → Has row n → near.distance ≤ n) after

-- None only where there is none.
unfoldable pub MatchNearest : (List ℕ × Symbol → ℕ → Type 0) → Rows → Option Near → Type 0
MatchNearest Has rows None = AllByRecursion (λ row. (n : ℕ) → Has row n → ⊥) rows
MatchNearest Has rows (Some near) = IsNearestSymbol Has rows near

-- ---- fields
-- FIELD finds the name, that of a dummy section's symbol, as a field which has the byte at an address, n after its
-- first
pub record FieldHasByte (source : Source) (regs : List ℕ) (offset : ℕ) (control : Option (List ℕ)) (address : ℕ)
    (row : List ℕ × Symbol) (n : ℕ) : Type 0 where
  pub dummy : is_field control row.1.value ≡ true
  pub field : Field
  pub found : field_in source regs offset row.0 ≡ Some field
  pub place : distance field.address address ≡ n
  pub within : n < field.length

-- of the fields that have a byte the one that begins last is reported, and of several such the first that is defined
abbrev pub NearestFieldIs : Type 0
NearestFieldIs = (lines : List (List ℕ)) (standing : Standing) (offset : ℕ) (source : Source) (address : ℕ)
    → own_offset standing ≡ Some offset → placed_in lines ≡ Some source
    → MatchNearest (FieldHasByte source standing.regs offset (symbols_of source).control address)
    (symbols_of source).rows (nearest_field address lines standing)

-- ---- labels
abbrev pub IsLabel : ℕ → Option (List ℕ) → List ℕ × Symbol → ℕ → Type 0
IsLabel offset control row n = near_label offset control row ≡ Some (record { name = row.0; distance = n })

-- of the labels at a byte or before it the last one is reported, and of several such the first that is defined
abbrev pub NearestLabelIs : Type 0
NearestLabelIs = (lines : List (List ℕ)) (offset : ℕ) (named : SourceSymbols) → named_in lines ≡ Some named
    → MatchNearest (IsLabel offset named.control) named.rows (nearest_label offset lines)
