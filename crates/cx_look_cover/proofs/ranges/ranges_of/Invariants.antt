use Rattle.std.proofs.Common.{◌≡◌, ◌++◌, drop}
use Rattle.cx_look_cover.specs.Ranges.{ranges_from, ranges_of}
use Rattle.cx_look_cover.proofs.ranges.ranges_of.Given as goal

-- the ranges so far, and those from the last one on
abbrev pub invariant-loop-line : goal.invariant-loop-line
invariant-loop-line l = l.ranges.items ++ ranges_from l.first l.last (drop l.line-index l.more) ≡ ranges_of l.lines
