use Rattle.std.proofs.Common.{◌≡◌, ◌<◌, length, get_or, true, false, arith, rules}
use Rattle.std.specs.Prelude.{◌==◌}
use Rattle.cx_asm_expressions.specs.Items.{value_length}
use Rattle.cx_asm_expressions.proofs.FieldLemmas.{sum_cut, sum_kept}
use Rattle.std.proofs.lemmas.Grind.{common_steps}
use Rattle.cx_asm_expressions.proofs.lengths.fields_length.Goals as goal
use Rattle.cx_asm_expressions.proofs.lengths.fields_length.Goals.{then-c-eq44, else-c-eq44}

pub loop-i-preserved : goal.loop-i-preserved
loop-i-preserved c =
    let body = c.args.body.now in
    let i = c.loop-i.i in
    let within : i < length body = omega arith in
    let f = value_length c.args.kind c.args.modifier in
    elim c.if-c-eq44.branch [
      | then-c-eq44 w ↦
          let comma : (get_or body i 0 == 44) ≡ true = search rules in
          let e = sum_cut f c.loop-i.total body c.loop-i.start i _ within comma c.loop-i.invariant.goes_on in
          first_of (search (rules, e), grind (arith, common_steps, e))
      | else-c-eq44 w ↦
          let other : (get_or body i 0 == 44) ≡ false = search rules in
          let e = sum_kept f c.loop-i.total body c.loop-i.start i _ c.loop-i.invariant.begun within other c.loop-i.invariant.goes_on in
          search (rules, e)
    ]
