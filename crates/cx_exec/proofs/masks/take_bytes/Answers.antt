use Rattle.std.proofs.Common.{sym, ◌∙◌, arith}
use Rattle.cx_exec.proofs.MaskLemmas.{byte_taken, byte_left}
use Rattle.cx_exec.proofs.masks.take_bytes.Goals as goal
use Rattle.cx_exec.proofs.masks.take_bytes.Goals.{then-mask_selects, else-mask_selects}

pub loop-k-preserved : goal.loop-k-preserved
loop-k-preserved c = elim c.if-mask_selects.branch [
  | then-mask_selects w ↦ (
    rw (w.buffer-is, w.count-is) (byte_taken c.args.mask c.args.word c.loop-k.k c.loop-k.count w.byte_of.result c.loop-k.buffer (sym c.mask_selects.ensures ∙ w.if-mask_selects.true) (omega arith) c.loop-k.invariant.0 w.byte_of.ensures),
    omega arith,
  )
  | else-mask_selects w ↦ (
    rw (w.buffer-is, w.count-is) (byte_left c.args.mask c.args.word c.loop-k.k c.loop-k.count c.loop-k.buffer (sym c.mask_selects.ensures ∙ w.if-mask_selects.false) c.loop-k.invariant.0),
    omega arith,
  )
]
