-- The first of all faults is what a source is refused for.
use Rattle.std.proofs.Common.{◌≡◌, Option, Some, None, slice_get, Ok, Err, refl}
use Rattle.std.specs.Prelude.{option_map}
use Rattle.std.specs.Option.{option_map_or}
use Rattle.std.specs.Result.{result_err}
use Rattle.cx_source.specs.declared.source.Source.{Source}
use Rattle.cx_asm_pass1.specs.declared.place.LineFault.{LineFault}
use Rattle.cx_asm.specs.Assembly.{AssemblyParts, assembly_faults, assembly_of, fault_at, assembly_parts}
use Rattle.cx_asm.specs.declared.faults.AsmFault.{AsmFault}

reported : (made : AssemblyParts) (first : Option LineFault)
    → result_err {T = AssemblyParts} {E = AsmFault} (option_map_or (λ f. Err (fault_at f)) first (Ok made)) ≡ option_map fault_at first
reported made None = refl
reported made (Some first) = refl

pub first_is_reported : (source : Source) → result_err (assembly_of source) ≡ option_map fault_at (slice_get (assembly_faults source) 0)
unfolding assembly_of
first_is_reported source = reported (assembly_parts source) (slice_get (assembly_faults source) 0)
