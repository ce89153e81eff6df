use Rattle.std.proofs.Common.{◌≤◌, drop, length, arith}
use Rattle.std.proofs.lemmas.Grind.{common_steps}
use Rattle.std.proofs.lemmas.Bool.Decides.{nat_tests}
use Rattle.cx_look_xref.proofs.NameLemmas.{names_end}
use Rattle.cx_look_xref.proofs.names.push_outside.Goals as goal

pub returns-in_default : goal.returns-in_default
returns-in_default c =
    let past : length c.args.outside.now ≤ c.loop-i.i = first_of (grind (arith, nat_tests, c.in_default.ensures.lookup), grind (arith, common_steps, nat_tests)) in
    let none = names_end c.loop-i.run.items (drop c.loop-i.i c.args.text.now) c.args.outside.now c.loop-i.i past in
    grind (arith, common_steps, none, c.loop-i.invariant, c.in_ok-push_name.ensures, c.deref.ensures.value)
