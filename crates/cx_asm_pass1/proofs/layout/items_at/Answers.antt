use Rattle.std.proofs.Common.{ℕ, ◌<◌, List, [], length, add-one, drop-cons, append_assoc, arith, Bor}
use Rattle.cx_asm_expressions.specs.Facts.Faults.{lower_in_turn}
use Rattle.cx_asm_pass1.proofs.layout.items_at.Goals as goal

pub loop-part-preserved : goal.loop-part-preserved
loop-part-preserved c =
    let within : c.loop-part.part-index < length c.args.parts.now = omega arith in
    let one = drop-cons {A = Bor (List ℕ)} c.args.parts.now c.loop-part.part-index (record { ref_ptr = (0, 0); now = [] }) within in
    record {
      offsets = rw (add-one, c.in_ok-push.ensures.items, append_assoc, c.place_item-start.ensures.start, c.place_item-start.ensures.end) (rw one at c.loop-part.invariant.offsets);
      end = rw (add-one, c.place_item-start.ensures.end) (rw one at c.loop-part.invariant.end);
      fault = rw (add-one, c.lower-fault.ensures, c.place_item-start.ensures.fault, lower_in_turn) (rw one at c.loop-part.invariant.fault);
    }
