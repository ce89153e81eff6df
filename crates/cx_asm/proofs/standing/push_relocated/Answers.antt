use Rattle.std.proofs.Common.{arith}
use Rattle.cx_asm.proofs.FitLemmas.{relocated_fit}
use Rattle.cx_asm.proofs.standing.push_relocated.Goals as goal

pub overflow_cast-at : goal.overflow_cast-at
overflow_cast-at c =
    let within = relocated_fit c.args.at c.args.count c.args.is_relocated 65536 c.if-not-is_relocated.false (omega (arith, c.if-count-eq0.false)) c.requires in
    omega (arith, within)

pub push_words-requires : goal.push_words-requires
push_words-requires c =
    relocated_fit c.args.at c.args.count c.args.is_relocated 65536 c.if-not-is_relocated.false (omega (arith, c.if-count-eq0.false)) c.requires
