use Rattle.std.proofs.Common.{◌≡◌, ◌++◌, drop, map}
use Rattle.std.specs.Prelude.{fold, scan}
use Rattle.std.specs.Result.{result_err}
use Rattle.cx_asm_expressions.specs.Faults.{lower, lowest}
use Rattle.cx_asm_expressions.specs.Items.{constant_in}
use Rattle.cx_asm_pass1.specs.Layout.{item_end, item_start}
use Rattle.cx_asm_pass1.proofs.layout.items_at.Given as goal

abbrev pub invariant-loop-part : goal.invariant-loop-part
invariant-loop-part l =
    record {
      offsets : l.offsets.items ++ scan item_end item_start l.at (map (constant_in l.is_ds) (map (λ part. part.now) (drop l.part-index l.parts)))
          ≡ scan item_end item_start l.next (map (constant_in l.is_ds) (map (λ part. part.now) l.parts));
      end : fold item_end l.at (map (constant_in l.is_ds) (map (λ part. part.now) (drop l.part-index l.parts)))
          ≡ fold item_end l.next (map (constant_in l.is_ds) (map (λ part. part.now) l.parts));
      fault : lower l.fault (lowest (map result_err (map (constant_in l.is_ds) (map (λ part. part.now) (drop l.part-index l.parts)))))
          ≡ lowest (map result_err (map (constant_in l.is_ds) (map (λ part. part.now) l.parts)));
    }
