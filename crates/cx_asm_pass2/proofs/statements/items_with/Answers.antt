use Rattle.std.proofs.Common.{◌≤◌, List, ℕ, map, drop, length, append-nil, arith, Bor}
use Rattle.std.proofs.lemmas.Grind.{common_steps}
use Rattle.std.proofs.lemmas.Bool.Decides.{nat_tests}
use Rattle.cx_asm_pass2.proofs.ItemLemmas.{zip_ends}
use Rattle.cx_asm_pass2.proofs.statements.items_with.Goals as goal

pub returns-in_default : goal.returns-in_default
returns-in_default c =
    let past : length c.args.offsets.now ≤ c.loop-index.index = first_of (grind (arith, nat_tests, c.in_default.ensures.lookup), grind (arith, common_steps, nat_tests)) in
    let none = zip_ends (map {A = Bor (List ℕ)} (λ text. text.now) (drop c.loop-index.index c.args.texts.now)) c.args.offsets.now c.loop-index.index past in
    rw (none, append-nil) at c.loop-index.invariant
