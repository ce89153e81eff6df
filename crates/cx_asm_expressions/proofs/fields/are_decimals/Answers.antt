use Rattle.std.proofs.Common.{◌≡◌, ◌<◌, length, get_or, true, false, arith, rules}
use Rattle.std.specs.Prelude.{◌==◌}
use Rattle.std.specs.List.{slice_range}
use Rattle.cx_asm_expressions.specs.Fields.{is_decimal}
use Rattle.cx_asm_expressions.proofs.FieldLemmas.{all_cut, all_kept}
use Rattle.cx_asm_expressions.proofs.fields.are_decimals.Goals as goal
use Rattle.cx_asm_expressions.proofs.fields.are_decimals.Goals.{then-c-eq44+else-not-is_decimal, else-c-eq44}

pub loop-i-preserved : goal.loop-i-preserved
loop-i-preserved c =
    let body = c.args.body.now in
    let i = c.loop-i.i in
    let within : i < length body = omega arith in
    elim c.if-c-eq44.branch [
      | then-c-eq44+else-not-is_decimal w ↦
          let comma : (get_or body i 0 == 44) ≡ true = search rules in
          let good : is_decimal (slice_range body c.loop-i.start i) ≡ true = search rules in
          let e = all_cut body c.loop-i.start i _ within comma good c.loop-i.invariant.goes_on in
          search (rules, e)
      | else-c-eq44 w ↦
          let other : (get_or body i 0 == 44) ≡ false = search rules in
          let e = all_kept body c.loop-i.start i _ c.loop-i.invariant.begun within other c.loop-i.invariant.goes_on in
          search (rules, e)
    ]
