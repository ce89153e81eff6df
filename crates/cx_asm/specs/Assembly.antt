-- What a source is assembled to, or why it is refused (GC33-4010, "END"; the faults and the limit of 65,536 bytes are
-- own).
use Rattle.std.specs.Prelude.{◌≡◌, ℕ, ◌-◌, nat_le, if◌then◌else◌, unwrap_or, Result, Ok, Err, List, [], ◌∷◌, length, reverse, slice_get, map}
use Rattle.std.specs.Option.{option_map_or}
use Rattle.std.specs.Result.{result_ok}
use Rattle.cx_source.specs.declared.source.Source.{Source}
use Rattle.cx_asm_expressions.specs.declared.faults.FaultKind.{FaultKind}
use Rattle.cx_asm_expressions.specs.declared.faults.FaultKind.TheVariants as kind
use Rattle.cx_asm_pass1.specs.AllFaults.{place_faults}
use Rattle.cx_asm_pass1.specs.PassState.{line_fault}
use Rattle.cx_asm_pass1.specs.Locations.{control_section, final_state, storage_length}
use Rattle.cx_asm_pass1.specs.declared.place.LineFault.{LineFault}
use Rattle.cx_asm_operands.specs.Bases.{none_in_use}
use Rattle.cx_asm_operands.specs.Directives.{entry_in}
use Rattle.cx_asm_image.specs.Assembled.{AssembledParts, assembled_parts}
use Rattle.cx_asm_image.specs.Storage.{working_storage}
use Rattle.cx_asm_pass2.specs.Statements.{PlacedStatement, first_end, statements_of, placed_of}
use Rattle.cx_asm_pass2.specs.Whole.{Whole, directive_context, whole_of}
use Rattle.cx_asm_pass2.specs.SecondFaults.{second_faults_after}
use Rattle.cx_asm.specs.Resolving.{Standing, standing_from}
use Rattle.cx_asm.specs.Listing.{item_listing}
use Rattle.cx_asm.specs.declared.faults.AsmFault.{AsmFault}
use Rattle.cx_asm.specs.declared.faults.AsmFault.TheVariants as fault

-- the section, and the listing
pub record AssemblyParts : Type 0 where
  pub section : AssembledParts
  pub listing : List (List ℕ)

-- ---- the section
-- what is in the control section
unfoldable pub standing_of : Source → Standing
standing_of source = standing_from (whole_of source) (statements_of source) none_in_use (statements_of source)

-- how many bytes it has; 0 where there is none
abbrev pub control_section_size : Source → ℕ
control_section_size source = option_map_or (λ control. control.length) (control_section (final_state source)) 0

-- the entry that the first END writes, or the section's start
abbrev pub entry_by : Whole → PlacedStatement → ℕ
entry_by whole s =
    unwrap_or (result_ok (entry_in whole.control (directive_context whole none_in_use s) s.stmt.operand)) 0

unfoldable pub section_of : Source → AssembledParts
section_of source =
    let stands = standing_of source in let storage = working_storage (storage_length (final_state source)) in
    let entry = option_map_or (entry_by (whole_of source)) (first_end (statements_of source)) 0 in
    assembled_parts stands.lines (control_section_size source) stands.relocs entry storage

abbrev pub assembly_parts : Source → AssemblyParts
assembly_parts source =
    let listing = map (item_listing (whole_of source) (section_of source).image.text) (placed_of source) in
    record { section = section_of source; listing = listing }

-- ---- faults
abbrev pub fault_on : ℕ → FaultKind → AsmFault
fault_on line kind.UnknownOperation = fault.UnknownOperation line
fault_on line kind.UndefinedSymbol = fault.UndefinedSymbol line
fault_on line kind.DuplicateSymbol = fault.DuplicateSymbol line
fault_on line kind.NoAddressability = fault.NoAddressability line
fault_on line kind.BadOperand = fault.BadOperand line
fault_on line kind.ValueOutOfRange = fault.ValueOutOfRange line
fault_on line kind.NotRelocatable = fault.NotRelocatable line
fault_on line kind.TooLarge = fault.TooLarge line

abbrev pub fault_at : LineFault → AsmFault
fault_at first = fault_on first.line first.kind

-- those of the second pass: of operands and values
unfoldable pub second_faults_of : Source → List LineFault
second_faults_of source = second_faults_after (whole_of source) (reverse (statements_of source))

-- END's line, or the last without an END
abbrev pub last_line : Source → ℕ
last_line source = option_map_or (λ item. item.line) (slice_get source.items (length source.items - 1)) 0

abbrev pub end_line : Source → ℕ
end_line source = option_map_or (λ s. s.line) (first_end (statements_of source)) (last_line source)

-- that of a text of more than 65,536 bytes
abbrev pub size_faults : ℕ → ℕ → List LineFault
size_faults size line = if nat_le size 65536 then [] else line_fault line kind.TooLarge ∷ []

-- the first of two lists that has anything
abbrev pub first_found : List LineFault → List LineFault → List LineFault
first_found [] later = later
first_found (fault ∷ more) later = fault ∷ more

-- those of the second pass, and without one that of its size
abbrev pub later_faults : Source → List LineFault
later_faults source =
    first_found (second_faults_of source) (size_faults (control_section_size source) (end_line source))

-- all faults for which a source is refused: those of the first pass, and where it has none the later ones
unfoldable pub assembly_faults : Source → List LineFault
assembly_faults source = first_found (place_faults source) (later_faults source)

-- ---- the answer
-- what a source is assembled to, or its first fault
unfoldable pub assembly_of : Source → Result AssemblyParts AsmFault
assembly_of source =
    option_map_or (λ first. Err (fault_at first)) (slice_get (assembly_faults source) 0) (Ok (assembly_parts source))

-- The answer is the one due, unless memory runs out.
abbrev pub Assembles : Result AssemblyParts AsmFault → Result AssemblyParts AsmFault → Type 0
Assembles due (Err fault.Memory) = Unit {0}
Assembles due result = due ≡ result
