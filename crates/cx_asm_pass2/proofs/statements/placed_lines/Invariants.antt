use Rattle.std.proofs.Common.{◌≡◌, ◌≤◌, length, reverse, take}
use Rattle.cx_asm_pass1.specs.PassState.{state_after}
use Rattle.cx_asm_pass2.specs.Statements.{placed_latest_first}
use Rattle.cx_asm_pass2.proofs.statements.placed_lines.Given as goal

abbrev pub invariant-loop-item : goal.invariant-loop-item
invariant-loop-item l = record {
  placed : l.placed.items ≡ reverse (placed_latest_first (reverse (take l.item-index l.source.items)));
  next : l.next ≡ length (state_after (reverse (take l.item-index l.source.items))).places;
  few : l.next ≤ l.item-index;
}
