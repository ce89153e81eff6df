use Rattle.std.proofs.Common.{◌≡◌, ◌<◌, length, get_or, map, true, false, arith, rules}
use Rattle.std.specs.Prelude.{◌==◌}
use Rattle.cx_asm_expressions.proofs.FieldLemmas.{list_cut, list_kept}
use Rattle.std.proofs.lemmas.Grind.{common_steps}
use Rattle.cx_asm_expressions.proofs.fields.fields.Goals as goal
use Rattle.cx_asm_expressions.proofs.fields.fields.Goals.{then-c-eq44+in_ok-push, else-c-eq44}

pub loop-i-preserved : goal.loop-i-preserved
loop-i-preserved c =
    let body = c.args.body.now in
    let i = c.loop-i.i in
    let within : i < length body = omega arith in
    let front = map (λ field. field.now) c.loop-i.found.items in
    elim c.if-c-eq44.branch [
      | then-c-eq44+in_ok-push w ↦
          let comma : (get_or body i 0 == 44) ≡ true = search rules in
          let e = list_cut front body c.loop-i.start i _ within comma c.loop-i.invariant.goes_on in
          first_of (search (rules, e), grind (arith, common_steps, e))
      | else-c-eq44 w ↦
          let other : (get_or body i 0 == 44) ≡ false = search rules in
          let e = list_kept front body c.loop-i.start i _ c.loop-i.invariant.begun within other c.loop-i.invariant.goes_on in
          search (rules, e)
    ]
