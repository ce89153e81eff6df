use Rattle.std.proofs.Common.{◌<◌, length, arith, sym, rules}
use Rattle.std.proofs.lemmas.Grind.{common_steps}
use Rattle.cx_asm_pass2.specs.SecondFaults.{item_fault}
use Rattle.cx_asm_pass2.specs.Whole.{whole_by}
use Rattle.cx_asm.proofs.FaultLemmas.{one_item_more}
use Rattle.cx_asm.proofs.FitLemmas.{kept_fits}
use Rattle.cx_asm.proofs.JoinLemmas.{items_next, kept_more}
use Rattle.cx_asm.proofs.pass.SecondPass.push_items.Goals as goal

pub push_item-requires : goal.push_item-requires
push_item-requires c =
    let next = items_next (whole_by c.args.self.now.places.now) c.args.is_ds c.args.statement.now c.args.items.now c.item-item.result c.loop-item.item-index c.loop-item-test.true in
    kept_fits c.args.self.now.keeps c.loop-item.standing _ _ _ _ _ 65536 (rw (sym c.item-item.is) at next) c.loop-item.invariant.standing c.requires

pub loop-item-preserved : goal.loop-item-preserved
loop-item-preserved c =
    let within : c.loop-item.item-index < length c.args.items.now = omega arith in
    let next = items_next (whole_by c.args.self.now.places.now) c.args.is_ds c.args.statement.now c.args.items.now c.item-item.result c.loop-item.item-index within in
    let e = one_item_more (item_fault (whole_by c.args.self.now.places.now) c.args.is_ds c.args.statement.now) c.loop-item.fault
    c.args.items.now c.item-item.result c.loop-item.item-index _ within c.loop-item.invariant.fault in
    record {
      standing = kept_more c.args.self.now.keeps c.loop-item.standing _ _ _ _ _ c.in_ok-other.ensures.standing (rw (sym c.item-item.is) at next) c.loop-item.invariant.standing;
      fault = first_of (search (rules, e), grind (arith, common_steps, e));
    }
