-- An accepted source has no fault, and is made of what its definition says.
use Rattle.std.specs.Prelude.{Option, Result, Ok, Err, nat_le, reverse, slice_get}
use Rattle.std.specs.Option.{option_map_or}
use Rattle.std.proofs.Common.{◌≡◌, ◌≤◌, ℕ, Bool, true, false, cond, None, List, [], ◌∷◌, refl, sym, ◌∙◌, ap, arith}
use Rattle.std.proofs.lemmas.Bool.Decides.{nat_tests}
use Rattle.cx_asm_pass1.specs.AllFaults.{place_faults}
use Rattle.cx_asm_pass1.specs.Facts.AllFaults as places
use Rattle.cx_asm_pass1.specs.PassState.{line_fault}
use Rattle.cx_asm_pass1.specs.Locations.{final_state}
use Rattle.cx_asm_pass1.specs.declared.place.LineFault.{LineFault}
use Rattle.cx_source.specs.declared.source.Source.{Source}
use Rattle.cx_asm.specs.Assembly.{AssemblyParts, assembly_faults, assembly_of, end_line, fault_at, first_found, assembly_parts, second_faults_of, size_faults, control_section_size}
use Rattle.cx_asm.specs.declared.faults.AsmFault.{AsmFault}
use Rattle.cx_asm_expressions.specs.declared.faults.FaultKind.TheVariants as kind

abbrev made_or_fault : Option LineFault → AssemblyParts → Result AssemblyParts AsmFault
made_or_fault first made = option_map_or (λ f. Err (fault_at f)) first (Ok made)

made_without : (faults : List LineFault) (one made : AssemblyParts) → made_or_fault (slice_get faults 0) one ≡ Ok made → (faults ≡ []) × (one ≡ made)
made_without [] one made e = (refl, cc)
made_without (first ∷ more) one made e = absurd (cc)

neither : (one other : List LineFault) → first_found one other ≡ [] → (one ≡ []) × (other ≡ [])
neither [] other e = (refl, e)
neither (first ∷ more) other e = absurd (cc)

when_short : (is : Bool) (faults : List LineFault) (first : LineFault) → cond is [] (first ∷ faults) ≡ [] → is ≡ true
when_short true faults first e = refl
when_short false faults first e = absurd (cc)

short : (size : ℕ) → nat_le size 65536 ≡ true → size ≤ 65536
short size e = grind (arith, nat_tests)

pub record Accepted (source : Source) (made : AssemblyParts) : Type 0 where
  pub sound : (final_state source).fault ≡ None
  pub second : second_faults_of source ≡ []
  pub short : control_section_size source ≤ 65536
  pub made_is : assembly_parts source ≡ made

pub accepted : (source : Source) (made : AssemblyParts) → assembly_of source ≡ Ok made → Accepted source made
unfolding assembly_of assembly_faults
accepted source made e =
    let all = made_without _ (assembly_parts source) made e in
    let first = neither (place_faults source) _ all.0 in
    let second = neither (second_faults_of source) (size_faults (control_section_size source) (end_line source)) first.1 in
    record {
      sound = sym (places.first_of_faults (reverse source.items)) ∙ ap (λ (l : List LineFault). slice_get l 0) first.0;
      second = second.0;
      short = short (control_section_size source) (when_short (nat_le (control_section_size source) 65536) [] (line_fault (end_line source) kind.TooLarge) second.1);
      made_is = all.1;
    }
