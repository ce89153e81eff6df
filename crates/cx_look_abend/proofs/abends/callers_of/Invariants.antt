use Rattle.std.proofs.Common.{◌≡◌, ◌≤◌, length, map, take}
use Rattle.cx_program.specs.Levels.{all_levels}
use Rattle.cx_look_abend.specs.Abends.{caller_of}
use Rattle.cx_look_abend.proofs.abends.callers_of.Given as goal

-- those of the first levels
abbrev pub invariant-loop-index : goal.invariant-loop-index
invariant-loop-index l =
    (l.callers ≡ map caller_of (take l.index (all_levels l.levels))) × (length l.callers ≤ l.index) × (l.index ≤ length l.levels.callers)
