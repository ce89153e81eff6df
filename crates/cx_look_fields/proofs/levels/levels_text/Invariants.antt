use Rattle.std.proofs.Common.{◌≡◌, ◌++◌, ◌+◌, drop}
use Rattle.cx_program.specs.Levels.{all_levels}
use Rattle.cx_look_fields.specs.Levels.{levels_text}
use Rattle.cx_look_fields.proofs.levels.levels_text.Given as goal

abbrev pub invariant-loop-index : goal.invariant-loop-index
invariant-loop-index g l =
    l.report ++ levels_text l.sources l.shared (l.index + 1) (drop l.index (all_levels l.levels)) ≡ l.initial.report ++ levels_text l.sources l.shared 1 (all_levels l.levels)
