use Rattle.std.proofs.Common.{◌≡◌, ◌<◌, length, Some, cond, unwrap_or, arith, rules}
use Rattle.std.specs.Prelude.{pos, ◌+ℤ◌}
use Rattle.std.specs.Map.{lookup}
use Rattle.std.proofs.lemmas.Grind.{common_steps}
use Rattle.indexmap.specs.IndexMap.{insert_entry}
use Rattle.cx_asm_expressions.specs.Names.{is_same}
use Rattle.cx_asm_expressions.specs.Parts.Sections.{unit}
use Rattle.cx_asm_expressions.proofs.TableLemmas.{found_after_put}
use Rattle.cx_asm_expressions.proofs.WeightLemmas.{light_step, weights_more}
use Rattle.cx_asm_expressions.proofs.weights.weights.Goals as goal

pub loop-value-preserved : goal.loop-value-preserved
loop-value-preserved c =
    let old = c.loop-value.weights.entries in
    let new = c.put_weight.new.weights.entries in
    let value = c.value-item.result in
    let name = c.in-Some.section in
    let i = c.loop-value.value-index in
    let within : i < length c.args.values.now = omega arith in
    let named : value.value.section ≡ Some name = first_of (search rules, grind (arith, common_steps)) in
    let w = unwrap_or (lookup (is_same name) old) (pos 0) in
    let is_put : new ≡ insert_entry is_same old name (w +ℤ unit value.sign) = first_of (search rules, grind (arith, common_steps)) in
    record {
      light = λ q.
          let given : lookup (is_same q) new ≡ cond (is_same name q) (Some (w +ℤ unit value.sign)) (lookup (is_same q) old) =
          rw is_put (found_after_put old name q (w +ℤ unit value.sign)) in
          light_step (is_same name q) (lookup (is_same q) old) (lookup (is_same q) new) w value.sign i given
          (c.loop-value.invariant.light q) (c.loop-value.invariant.light name);
      goes_on = weights_more old new c.args.values.now value name i _ within c.value-item.is named is_put c.loop-value.invariant.goes_on;
    }
