use Rattle.std.proofs.Common.{◌≡◌, ◌++◌}
use Rattle.std.specs.List.{flat_map}
use Rattle.cx_look_cover.specs.Texts.{program_line_with}
use Rattle.cx_look_cover.proofs.looks.push_programs.Given as goal

abbrev pub invariant-loop-name : goal.invariant-loop-name
invariant-loop-name g l =
    l.report ++ flat_map (program_line_with l.sources l.region l.tallies) l.name-iterator
    ≡ l.initial.report ++ flat_map (program_line_with l.sources l.region l.tallies) l.region.shared.programs
