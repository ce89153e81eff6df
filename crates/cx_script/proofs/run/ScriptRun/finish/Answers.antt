use Rattle.std.proofs.Common.{sym}
use Rattle.cx_script.proofs.ServeLemmas.{finish_badly, finish_line, finish_none}
use Rattle.cx_script.proofs.run.ScriptRun.finish.Goals as goal

pub returns-in_default-clause-ends : goal.returns-in_default-clause-ends
returns-in_default-clause-ends g c =
    let none = rw c.as_slice.ensures.value at c.in_default.ensures in
    finish_none _ g.P.Performer.performs g.W.ScriptOut.writes _ _ _ _ _ _ _ c.requires.unbroken (sym none) c.end.ensures.value

pub returns-in-Err-clause-ends : goal.returns-in-Err-clause-ends
returns-in-Err-clause-ends g c =
    let one = rw c.as_slice.ensures.value at c.in-Some.ensures in
    finish_badly _ g.P.Performer.performs g.W.ScriptOut.writes _ _ _ _ _ _ _ _ _ _ _ c.requires.unbroken (sym one) c.in-Err.ensures.taken

pub returns-clause-ends : goal.returns-clause-ends
returns-clause-ends g c =
    let one = rw c.as_slice.ensures.value at c.in-Some.ensures in
    finish_line _ g.P.Performer.performs g.W.ScriptOut.writes _ _ _ _ _ _ _ _ _ _ _ _ c.requires.unbroken (sym one) c.in_default-take_last.ensures.taken c.in_default-take_last.ensures.lines c.end-2.ensures.value
