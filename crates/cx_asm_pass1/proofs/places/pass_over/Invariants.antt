use Rattle.std.proofs.Common.{◌≡◌, reverse, take}
use Rattle.cx_asm_pass1.specs.PassState.{state_after}
use Rattle.cx_asm_pass1.specs.Parts.Passing.{state_of}
use Rattle.cx_asm_pass1.proofs.places.pass_over.Given as goal

abbrev pub invariant-loop-item : goal.invariant-loop-item
invariant-loop-item l = state_of l.pass ≡ state_after (reverse (take l.item-index l.items))
