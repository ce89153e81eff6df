use Rattle.std.proofs.Common.{◌<◌, length, arith, rules}
use Rattle.std.specs.Option.{option_copied}
use Rattle.cx_asm_expressions.specs.Symbols.{find_in}
use Rattle.cx_asm_expressions.proofs.FaultLemmas.{fault_more}
use Rattle.cx_asm_expressions.proofs.expressions.lowest_fault.Goals as goal

pub loop-term-preserved : goal.loop-term-preserved
loop-term-preserved c =
    let within : c.loop-term.term-index < length c.args.terms.now = omega arith in
    let e = fault_more (find_in c.args.symbols.now) (option_copied c.args.here) c.loop-term.fault c.args.terms.now c.term-item.result
    c.loop-term.term-index _ within c.term-item.is c.loop-term.invariant in
    search (rules, e)
