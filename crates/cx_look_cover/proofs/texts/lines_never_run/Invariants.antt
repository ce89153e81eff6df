use Rattle.std.proofs.Common.{◌≡◌, ◌++◌, drop}
use Rattle.cx_look_cover.specs.Texts.{lines_never_run}
use Rattle.cx_look_cover.proofs.texts.lines_never_run.Given as goal

abbrev pub invariant-loop-it : goal.invariant-loop-it
invariant-loop-it l = l.lines.items ++ lines_never_run (drop l.it-index l.counted) ≡ lines_never_run l.counted
