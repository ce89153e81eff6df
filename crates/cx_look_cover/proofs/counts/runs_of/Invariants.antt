use Rattle.std.proofs.Common.{◌≡◌, take}
use Rattle.cx_look_cover.specs.Counts.{runs_of}
use Rattle.cx_look_cover.proofs.counts.runs_of.Given as goal

abbrev pub invariant-loop-tally : goal.invariant-loop-tally
invariant-loop-tally l = l.runs ≡ runs_of (take l.tally-index l.tallies)
