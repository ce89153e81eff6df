use Rattle.std.proofs.Common.{◌≡◌}
use Rattle.std.specs.List.{fold}
use Rattle.cx_look_cover.specs.Tallies.{end_with, programs_end}
use Rattle.cx_look_cover.proofs.tallies.programs_end.Given as goal

abbrev pub invariant-loop-loaded : goal.invariant-loop-loaded
invariant-loop-loaded g l = fold end_with l.end l.loaded-iterator ≡ programs_end l.region.shared.programs
