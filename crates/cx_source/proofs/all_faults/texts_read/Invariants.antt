use Rattle.std.proofs.Common.{◌≡◌, ◌+◌, ◌++◌, drop, false}
use Rattle.cx_source.specs.Faults.{line_faults}
use Rattle.cx_source.specs.Mended.{texts_read}
use Rattle.cx_source.proofs.all_faults.texts_read.Given as goal

abbrev pub invariant-loop-index : goal.invariant-loop-index
invariant-loop-index l = record {
  faults : l.faults.items ++ line_faults l.continues (l.index + 1) (drop l.index l.lines) ≡ line_faults false 1 l.lines;
  texts : l.texts.items ++ texts_read l.continues (l.index + 1) (drop l.index l.lines) ≡ texts_read false 1 l.lines;
}
