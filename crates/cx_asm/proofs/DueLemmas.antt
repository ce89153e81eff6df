-- The answer is the one due.
use Rattle.std.proofs.Common.{◌≡◌, ◌≤◌, ◌<◌, ℕ, true, false, Some, None, List, [], ◌∷◌, Result, Ok, Err, reverse, slice_get, refl, ◌∙◌, ap, arith}
use Rattle.std.proofs.lemmas.Bool.Decides.{nat_tests}
use Rattle.std.specs.Prelude.{nat_le}
use Rattle.cx_source.specs.declared.source.Source.{Source}
use Rattle.cx_asm_expressions.specs.declared.faults.FaultKind.TheVariants as kind
use Rattle.cx_asm_pass1.specs.AllFaults.{place_faults}
use Rattle.cx_asm_pass1.specs.Facts.AllFaults.{first_of_faults}
use Rattle.cx_asm_pass1.specs.PassState.{line_fault}
use Rattle.cx_asm_pass1.specs.Locations.{final_state}
use Rattle.cx_asm_pass1.specs.declared.place.LineFault.{LineFault}
use Rattle.cx_asm.specs.Assembly.{Assembles, AssemblyParts, assembly_faults, assembly_of, end_line, fault_at, first_found, assembly_parts, second_faults_of, size_faults, control_section_size}
use Rattle.cx_asm.specs.declared.faults.AsmFault.{AsmFault}
use Rattle.cx_asm.specs.declared.faults.AsmFault.TheVariants as fault

answered : (due : Result AssemblyParts AsmFault) (reported : AsmFault) → due ≡ Err reported → Assembles due (Err reported)
answered due (fault.UnknownOperation line) e = e
answered due (fault.UndefinedSymbol line) e = e
answered due (fault.DuplicateSymbol line) e = e
answered due (fault.NoAddressability line) e = e
answered due (fault.BadOperand line) e = e
answered due (fault.ValueOutOfRange line) e = e
answered due (fault.NotRelocatable line) e = e
answered due (fault.TooLarge line) e = e
answered due fault.Memory e = tt

refused : (source : Source) (first : LineFault) (reported : AsmFault) → slice_get (assembly_faults source) 0 ≡ Some first → reported ≡ fault_at first
    → Assembles (assembly_of source) (Err reported)
unfolding assembly_of
refused source first reported e is = answered _ reported (rw (e, is) refl)

found_first : (one other : List LineFault) (first : LineFault) → slice_get one 0 ≡ Some first → slice_get (first_found one other) 0 ≡ Some first
found_first [] other first e = absurd (cc)
found_first (f ∷ more) other first e = e

found_later : (one other : List LineFault) → slice_get one 0 ≡ None → first_found one other ≡ other
found_later [] other e = refl
found_later (f ∷ more) other e = absurd (cc)

-- of the first pass
first_of : (source : Source) → slice_get (place_faults source) 0 ≡ (final_state source).fault
first_of source = first_of_faults (reverse source.items)

pub first_refused : (source : Source) (first : LineFault) (reported : AsmFault) → (final_state source).fault ≡ Some first → reported ≡ fault_at first
    → Assembles (assembly_of source) (Err reported)
unfolding assembly_faults
first_refused source first reported e is = refused source first reported (found_first (place_faults source) _ first (first_of source ∙ e)) is

-- of the second, where the first has none
later : (source : Source) → (final_state source).fault ≡ None
    → assembly_faults source ≡ first_found (second_faults_of source) (size_faults (control_section_size source) (end_line source))
unfolding assembly_faults
later source sound = found_later (place_faults source) _ (first_of source ∙ sound)

pub second_refused : (source : Source) (first : LineFault) (reported : AsmFault) → (final_state source).fault ≡ None
    → slice_get (second_faults_of source) 0 ≡ Some first → reported ≡ fault_at first → Assembles (assembly_of source) (Err reported)
second_refused source first reported sound e is =
    refused source first reported (ap (λ (l : List LineFault). slice_get l 0) (later source sound) ∙ found_first (second_faults_of source) _ first e) is

-- of the size, where neither has any
sized : (source : Source) → (final_state source).fault ≡ None → slice_get (second_faults_of source) 0 ≡ None
    → assembly_faults source ≡ size_faults (control_section_size source) (end_line source)
sized source sound second = later source sound ∙ found_later (second_faults_of source) _ second

is_large : (size : ℕ) → 65536 < size → nat_le size 65536 ≡ false
is_large size large = grind (arith, nat_tests)

is_short : (size : ℕ) → size ≤ 65536 → nat_le size 65536 ≡ true
is_short size le = grind (arith, nat_tests)

pub large_refused : (source : Source) → (final_state source).fault ≡ None → slice_get (second_faults_of source) 0 ≡ None → 65536 < control_section_size source
    → Assembles (assembly_of source) (Err (fault.TooLarge (end_line source)))
large_refused source sound second large =
    refused source (line_fault (end_line source) kind.TooLarge) (fault.TooLarge (end_line source))
    (ap (λ (l : List LineFault). slice_get l 0) (sized source sound second) ∙ rw (is_large (control_section_size source) large) refl) refl

pub made_answered : (source : Source) (made : AssemblyParts) → (final_state source).fault ≡ None → slice_get (second_faults_of source) 0 ≡ None
    → control_section_size source ≤ 65536 → made ≡ assembly_parts source → Assembles (assembly_of source) (Ok made)
unfolding assembly_of
made_answered source made sound second le is =
    let none : assembly_faults source ≡ [] = sized source sound second ∙ rw (is_short (control_section_size source) le) refl in
    rw (none, is) refl
