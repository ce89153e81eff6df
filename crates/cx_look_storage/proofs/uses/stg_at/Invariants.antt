use Rattle.std.proofs.Common.{◌≡◌, ◌+◌, drop}
use Rattle.cx_program.specs.Levels.{all_levels}
use Rattle.cx_look_storage.specs.Uses.{stg_from}
use Rattle.cx_look_storage.proofs.uses.stg_at.Given as goal

abbrev pub invariant-loop-i : goal.invariant-loop-i
invariant-loop-i l = stg_from (l.i + 1) (drop l.i (all_levels l.levels)) l.start ≡ stg_from 1 (all_levels l.levels) l.start
