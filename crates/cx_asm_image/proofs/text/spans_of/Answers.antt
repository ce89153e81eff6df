use Rattle.std.proofs.Common.{◌≤◌, arith}
use Rattle.cx_asm_image.specs.Resolved.{offset_after}
use Rattle.cx_asm_image.specs.Facts.Apart.{fits_at}
use Rattle.cx_asm_image.proofs.text.spans_of.Goals as goal

pub span_of-requires : goal.span_of-requires
span_of-requires c =
    let within : offset_after c.line-item.result ≤ c.args.size =
    rw c.line-item.is (fits_at 0 c.args.lines.now c.args.size c.loop-line.line-index c.line-item.result c.requires.apart c.loop-line-test.true) in
    omega arith
