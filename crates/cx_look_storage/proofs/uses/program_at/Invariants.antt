use Rattle.std.proofs.Common.{◌≡◌}
use Rattle.cx_look_storage.specs.Parts.Walk.{program_at}
use Rattle.cx_look_storage.proofs.uses.program_at.Given as goal

abbrev pub invariant-loop-name : goal.invariant-loop-name
invariant-loop-name l = program_at l.name-iterator l.start ≡ program_at l.programs.entries l.start
