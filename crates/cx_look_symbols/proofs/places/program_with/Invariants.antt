use Rattle.std.proofs.Common.{◌≡◌}
use Rattle.std.specs.List.{find}
use Rattle.cx_look_symbols.specs.Parts.Places.{is_in}
use Rattle.cx_look_symbols.proofs.places.program_with.Given as goal

abbrev pub invariant-loop-name : goal.invariant-loop-name
invariant-loop-name l = find (λ program. is_in l.address program.1) l.name-iterator ≡ find (λ program. is_in l.address program.1) l.programs.entries
