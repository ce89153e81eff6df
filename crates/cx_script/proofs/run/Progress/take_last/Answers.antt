use Rattle.std.proofs.Common.{◌≡◌, ◌∙◌, sym, true, false}
use Rattle.cx_script_blocks.specs.Faults.{is_write}
use Rattle.cx_script.proofs.ResultLemmas.{on_err, on_ok}
use Rattle.cx_script.proofs.TakeLemmas.{take_failed, take_served, take_unwritten}
use Rattle.cx_script.proofs.run.Progress.take_last.Goals as goal

pub returns-then-failed-clause-taken : goal.returns-then-failed-clause-taken
returns-then-failed-clause-taken g c =
    let wrote : is_write c.take_line-answer.result ≡ true = sym c.take_line-answer.ensures.failure ∙ sym c.failed.ensures ∙ c.if-failed.true in
    let taken = rw c.requires.waits at c.take_line-answer.ensures.taken in
    take_failed g.P.Performer.performs g.W.ScriptOut.writes _ _ _ _ c.take_line-answer.result _ _ _ _ taken wrote

pub returns-then-is_err-clause-taken : goal.returns-then-is_err-clause-taken
returns-then-is_err-clause-taken g c =
    let unwritten : is_write c.take_line-answer.result ≡ false = sym c.take_line-answer.ensures.failure ∙ sym c.failed.ensures ∙ c.if-failed.false in
    let taken = rw c.requires.waits at c.take_line-answer.ensures.taken in
    take_unwritten g.P.Performer.performs g.W.ScriptOut.writes _ _ _ _ _ c.take_line-answer.result _ _ _ _ unwritten taken
    (on_err c.flush.result (sym c.is_err.ensures.value ∙ c.if-is_err.true) c.flush.ensures.err)

pub returns-clause-taken : goal.returns-clause-taken
returns-clause-taken g c =
    let unwritten : is_write c.take_line-answer.result ≡ false = sym c.take_line-answer.ensures.failure ∙ sym c.failed.ensures ∙ c.if-failed.false in
    let taken = rw c.requires.waits at c.take_line-answer.ensures.taken in
    take_served g.P.Performer.performs g.W.ScriptOut.writes _ _ _ _ _ c.take_line-answer.result _ _ _ _ unwritten taken
    (on_ok c.flush.result (sym c.is_err.ensures.value ∙ c.if-is_err.false) c.flush.ensures.ok)
