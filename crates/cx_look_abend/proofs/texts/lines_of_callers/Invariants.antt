use Rattle.std.proofs.Common.{◌≡◌, ◌++◌, take}
use Rattle.std.specs.List.{flat_map}
use Rattle.cx_look_abend.specs.Texts.{caller_line}
use Rattle.cx_look_abend.proofs.texts.lines_of_callers.Given as goal

abbrev pub invariant-loop-caller : goal.invariant-loop-caller
invariant-loop-caller l =
    l.report ≡ l.initial.report ++ flat_map (caller_line l.sources l.programs.entries) (take l.caller-index l.callers)
