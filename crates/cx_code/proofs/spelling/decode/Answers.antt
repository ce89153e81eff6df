-- What is read is at the front of the bytes, and where nothing is read no front is an instruction.
use Rattle.std.proofs.Common.{arith, sym}
use Rattle.cx_code.proofs.ReadingLemmas.{reading-sound, reading-none}
use Rattle.cx_code.proofs.spelling.decode.Goals as goal

pub returns-in_err-inst-clause-none : goal.returns-in_err-inst-clause-none
returns-in_err-inst-clause-none c =
    rw c.from_residual.ensures (λ i n. reading-none c.args.bytes.now i n (sym c.in_err-inst.ensures))

pub returns-clause-found : goal.returns-clause-found
returns-clause-found c =
    let read = reading-sound c.args.bytes.now c.in_ok-inst.inst (record { at = λ k. omega (arith, c.type_inv.bytes k) }) (sym c.in_ok-inst.ensures) in
    rw (c.length.ensures, c.op.ensures) read
