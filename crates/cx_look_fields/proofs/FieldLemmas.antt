-- Where a field is.
use Rattle.std.proofs.Common.{◌≡◌, ℕ, true, false, Option, Some, None, option_and_then, Ok, Err, List, [], ◌∷◌, ◌++◌, reverse, refl, sym, ap, ◌∙◌, append_assoc, append-nil}
use Rattle.std.specs.Prelude.{option_map}
use Rattle.std.specs.List.{AllByRecursion}
use Rattle.std.specs.Map.{lookup}
use Rattle.std.specs.Option.{option_map_or}
use Rattle.std.proofs.lemmas.List.{reverse-append}
use Rattle.cx_exec.specs.Machine.{effective}
use Rattle.cx_source.specs.declared.source.Source.{Source}
use Rattle.cx_asm_expressions.specs.declared.faults.FaultKind.TheVariants.{BadOperand}
use Rattle.cx_asm_expressions.specs.Names.{is_same}
use Rattle.cx_asm_expressions.specs.declared.values.Value.{Value}
use Rattle.cx_asm_operands.specs.Addresses.{implied_address}
use Rattle.cx_asm_operands.specs.Bases.{Bases, none_in_use}
use Rattle.cx_asm_operands.specs.Storage.{Operand, address_by_subfields, plain_in}
use Rattle.cx_asm_operands.specs.declared.addresses.Address.{Address}
use Rattle.cx_asm_pass1.specs.Locations.{final_state}
use Rattle.cx_asm_pass2.specs.SecondFaults.{bases_after, bases_after_all}
use Rattle.cx_asm_pass2.specs.Statements.{PlacedStatement}
use Rattle.cx_asm_pass2.specs.Whole.{Whole, whole_of}
use Rattle.cx_look_fields.specs.Fields.{bases_at, bases_at_offset, field_by, stands_at}
use Rattle.cx_look_fields.specs.FieldTexts.{typed}
use Rattle.cx_look_fields.specs.Laws.{FieldsAreOperands, context_at, field_in}
use Rattle.cx_look_fields.specs.Readings.{readings_of}
use Rattle.cx_look_fields.specs.declared.fields.Field.{Field}
use Rattle.cx_look_fields.specs.declared.fields.TypedField.{TypedField}
use Rattle.cx_look_fields.specs.declared.readings.NamedReading.{NamedReading}
use Rattle.cx_look_symbols.specs.Laws.{AreLookedUp, SymbolsAreLookedUp}
use Rattle.cx_look_symbols.specs.Symbols.{symbols_of}
use Rattle.cx_look_symbols.specs.declared.rows.Symbol.{Symbol}

-- ---- bases, statement by statement
passed : Whole → Bases → List PlacedStatement → Bases
passed w bases [] = bases
passed w bases (s ∷ after) = passed w (bases_after w bases s) after

all_passed : (w : Whole) (statements before : List PlacedStatement)
    → bases_after_all w (reverse statements ++ before) ≡ passed w (bases_after_all w before) statements
unfolding passed
all_passed w [] before = refl
all_passed w (s ∷ after) before =
    ap (λ (l : List PlacedStatement). bases_after_all w (l ++ before)) (reverse-append (s ∷ []) after)
    ∙ ap (λ (l : List PlacedStatement). bases_after_all w l) (append_assoc (reverse after) (s ∷ []) before)
    ∙ all_passed w after (s ∷ before)

found : (w : Whole) (offset : ℕ) (bases : Bases) (before : List PlacedStatement) (s : PlacedStatement) (after : List PlacedStatement)
    → AllByRecursion (λ other. stands_at w offset other ≡ false) before → stands_at w offset s ≡ true
    → bases_at w offset bases (before ++ s ∷ after) ≡ Some (passed w bases before)
unfolding bases_at passed
found w offset bases [] s after first there = rw there refl
found w offset bases (x ∷ before) s after first there = rw first.0 (found w offset (bases_after w bases x) before s after first.1 there)

-- ---- the field
of_symbol : (regs : List ℕ) (bases : Bases) (readings : List NamedReading) (name : List ℕ) (o : Option Symbol)
    → option_map (λ (t : TypedField). t.field) (option_and_then (λ (symbol : Symbol). option_map (typed readings name) (field_by regs bases symbol.value)) o)
    ≡ option_and_then (field_by regs bases) (option_map (λ (s : Symbol). s.value) o)
of_symbol regs bases readings name None = refl
of_symbol regs bases readings name (Some symbol) = go (field_by regs bases symbol.value)
  where
    go : (f : Option Field) → option_map (λ (t : TypedField). t.field) (option_map (typed readings name) f) ≡ f
    go None = refl
    go (Some field) = refl

-- that of a name, by the assembler's value
pub looked_up : (source : Source) (regs : List ℕ) (offset : ℕ) (name : List ℕ) (bases : Bases) → bases_at_offset source offset ≡ Some bases
    → AreLookedUp source (symbols_of source) → field_in source regs offset name ≡ option_and_then (field_by regs bases) ((final_state source).symbols name)
looked_up source regs offset name bases used known =
    let found : Option Symbol = lookup (is_same name) (symbols_of source).rows in
    let first : field_in source regs offset name ≡ option_and_then (field_by regs bases) (option_map (λ (s : Symbol). s.value) found) =
    rw used (of_symbol regs bases (readings_of source) name found) in
    first ∙ ap (λ (v : Option Value). option_and_then (field_by regs bases) v) (known.found name)

by_parts : (regs : List ℕ) (bases : Bases) (value : Value) (address : Address) (v : Option Value) → v ≡ Some value → implied_address bases value ≡ Ok address
    → option_and_then (field_by regs bases) v ≡ Some (record { address = effective regs 0 address.base address.displacement; length = value.length })
unfolding field_by
by_parts regs bases value address v e1 e2 = rw (e1, e2) refl

pub fields_are_operands : SymbolsAreLookedUp → FieldsAreOperands
unfolding plain_in
fields_are_operands looked source offset before s after regs name text value address at fault there written makes =
    let w = whole_of source in
    let c = context_at source before s in
    let bases : Bases = bases_after_all w (reverse before) in
    let made : implied_address bases value ≡ Ok address =
    sym (ap (λ (o : Option Operand). option_map_or (λ (it : Operand). address_by_subfields c it.place it.subfields) o (Err BadOperand)) written)
    ∙ makes in
    let known : bases_at_offset source offset ≡ Some bases =
    ap (λ (l : List PlacedStatement). bases_at w offset none_in_use l) at.among
    ∙ found w offset none_in_use before s after at.first at.there
    ∙ ap (λ (it : Bases). Some it)
    (sym (ap (λ (l : List PlacedStatement). bases_after_all w l) (sym (append-nil (reverse before))) ∙ all_passed w before [])) in
    looked_up source regs offset name bases known (looked source fault) ∙ by_parts regs bases value address (w.find name) there made
