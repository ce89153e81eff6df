use Rattle.std.proofs.Common.{◌≡◌, drop, map}
use Rattle.cx_asm_expressions.specs.Faults.{lower, lowest}
use Rattle.cx_asm_pass2.specs.SecondFaults.{item_fault}
use Rattle.cx_asm_pass2.specs.Whole.{whole_by}
use Rattle.cx_asm.specs.Parts.Kept.{kept}
use Rattle.cx_asm.specs.Resolving.{items_standing}
use Rattle.cx_asm.proofs.pass.SecondPass.push_items.Given as goal

abbrev pub invariant-loop-item : goal.invariant-loop-item
invariant-loop-item l = record {
  standing :
      kept l.self.keeps l.standing (items_standing (whole_by l.self.places.now) l.is_ds l.statement (drop l.item-index l.items))
      ≡ kept l.self.keeps l.initial.standing (items_standing (whole_by l.self.places.now) l.is_ds l.statement l.items);
  fault :
      lower l.fault (lowest (map (item_fault (whole_by l.self.places.now) l.is_ds l.statement) (drop l.item-index l.items)))
      ≡ lowest (map (item_fault (whole_by l.self.places.now) l.is_ds l.statement) l.items);
}
