use Rattle.std.proofs.Common.{ℕ, arith, ap, length, length-append}
use Rattle.cx_script_io.specs.Facts.Lines.{unbroken_nil}
use Rattle.cx_script.proofs.ServeLemmas.{piece_kept, piece_on, piece_start, piece_stopped}
use Rattle.cx_script.proofs.run.ScriptRun.take_piece.Goals as goal

pub lines-init : goal.lines-init
lines-init g c = (c.requires.failure, c.requires.unbroken, omega arith, piece_start _ g.P.Performer.performs g.W.ScriptOut.writes _ _ _ _ _ _)

pub returns-in-Err-clause-err : goal.returns-in-Err-clause-err
returns-in-Err-clause-err g c =
    piece_stopped _ g.P.Performer.performs g.W.ScriptOut.writes _ _ _ _ _ _ _ _ _ _ _ _ _ _ _ _ _ _ _ _ c.lines.invariant.3 c.in-Some.ensures.found c.lines.invariant.1 c.in-Some.ensures.unbroken c.in-Err.ensures.taken

pub lines-preserved : goal.lines-preserved
lines-preserved g c =
    let len = ap length c.in-Some.ensures.found in
    let more = c.lines.invariant.2 in
    let one = c.in_default-end_line.ensures.lines in (
      c.in_default-end_line.ensures.failure,
      rw c.in_default-end_line.ensures.part unbroken_nil,
      omega (arith, len, length-append {A = ℕ}, more, one),
      piece_on _ g.P.Performer.performs g.W.ScriptOut.writes _ _ _ _ _ _ _ _ _ _ _ _ _ _ _ _ _ _ _ _ _ c.lines.invariant.3 c.in-Some.ensures.found c.lines.invariant.1 c.in-Some.ensures.unbroken
          c.in_default-end_line.ensures.taken c.in_default-end_line.ensures.lines c.in_default-end_line.ensures.part,
    )

pub returns-clause-err : goal.returns-clause-err
returns-clause-err g c =
    rw c.keep.ensures.progress
    (piece_kept _ g.P.Performer.performs g.W.ScriptOut.writes _ _ _ _ _ _ _ _ _ _ _ _ _ _ c.lines.invariant.3 c.lines.invariant.1 c.in_default.ensures.none c.keep.ensures.fault c.keep.ensures.long)
