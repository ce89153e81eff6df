use Rattle.std.proofs.Common.{◌≡◌, ◌∙◌, sym, true, false}
use Rattle.cx_script_blocks.specs.Faults.{is_write}
use Rattle.cx_script.proofs.ResultLemmas.{on_err, on_ok}
use Rattle.cx_script.proofs.ServeLemmas.{serve_came, serve_failed, serve_front, serve_stopped}
use Rattle.cx_script.proofs.run.ScriptRun.serve.Goals as goal

pub returns-then-failed-clause-err : goal.returns-then-failed-clause-err
returns-then-failed-clause-err g c =
    let wrote : is_write c.take_piece-answer.result ≡ true = sym c.take_piece-answer.ensures.failure ∙ sym c.failed.ensures ∙ c.if-failed.true in
    let stopped = rw c.requires.waits at c.take_piece-answer.ensures.err in
    serve_failed _ g.P.Performer.performs g.W.ScriptOut.writes _ _ c.take_piece-answer.result _ _ _ _ _ stopped wrote

pub returns-then-is_err-clause-err : goal.returns-then-is_err-clause-err
returns-then-is_err-clause-err g c =
    let unwritten : is_write c.take_piece-answer.result ≡ false = sym c.take_piece-answer.ensures.failure ∙ sym c.failed.ensures ∙ c.if-failed.false in
    let came = rw c.requires.waits at c.take_piece-answer.ensures.came in
    let stopped = rw c.requires.waits at c.take_piece-answer.ensures.err in
    serve_front _ g.P.Performer.performs g.W.ScriptOut.writes _ _ _ c.take_piece-answer.result _ _ _ _ _ _ _ _ _ came stopped unwritten (on_err c.flush.result (sym c.is_err.ensures.value ∙ c.if-is_err.true) c.flush.ensures.err)

pub returns-clause-err : goal.returns-clause-err
returns-clause-err g c =
    let unwritten : is_write c.take_piece-answer.result ≡ false = sym c.take_piece-answer.ensures.failure ∙ sym c.failed.ensures ∙ c.if-failed.false in
    let stopped = rw c.requires.waits at c.take_piece-answer.ensures.err in
    serve_stopped _ g.P.Performer.performs g.W.ScriptOut.writes _ _ _ c.take_piece-answer.result _ _ _ _ _ stopped unwritten (on_ok c.flush.result (sym c.is_err.ensures.value ∙ c.if-is_err.false) c.flush.ensures.ok)

pub returns-clause-came : goal.returns-clause-came
returns-clause-came g c =
    let came = rw c.requires.waits at c.take_piece-answer.ensures.came in
    serve_came _ g.P.Performer.performs g.W.ScriptOut.writes _ _ _ c.take_piece-answer.result _ _ _ _ _ _ _ _ _ came (on_ok c.flush.result (sym c.is_err.ensures.value ∙ c.if-is_err.false) c.flush.ensures.ok)
