use Rattle.std.proofs.Common.{rules}
use Rattle.cx_exec.proofs.FillLemmas.{spread}
use Rattle.cx_exec.proofs.strings.spread.Goals as goal

pub returns-then-fill_fast : goal.returns-then-fill_fast
returns-then-fill_fast g c =
    let there = c.fill_fast.ensures.present c.if-fill_fast.true in
    spread _ _ _ _ _ _ _ _ c.args.at.second c.requires.above_0 c.requires.count c.requires.begins (search rules) there (c.fill_fast.ensures.done c.if-fill_fast.true)
