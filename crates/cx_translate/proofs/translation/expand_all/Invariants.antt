use Rattle.std.proofs.Common.{◌≡◌, ◌++◌, drop, false}
use Rattle.cx_translate.specs.Translation.{mended_items, statement_faults}
use Rattle.cx_translate.proofs.translation.expand_all.Given as goal

abbrev pub invariant-loop-item : goal.invariant-loop-item
invariant-loop-item l = record {
  faults : l.faults.items ++ statement_faults (drop l.item-index l.items) ≡ statement_faults l.items;
  made : l.made.items ++ mended_items l.continues (drop l.item-index l.items) ≡ mended_items false l.items;
}
