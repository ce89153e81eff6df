use Rattle.std.proofs.Common.{◌≤◌, arith}
use Rattle.cx_asm_image.specs.Resolved.{offset_after}
use Rattle.cx_asm_image.specs.Facts.Apart.{fits_at}
use Rattle.cx_asm_image.proofs.TextLemmas.{goes_on_at}
use Rattle.cx_asm_image.proofs.text.section_text.Goals as goal

pub push_line-requires-clause-fits : goal.push_line-requires-clause-fits
push_line-requires-clause-fits c =
    let within : offset_after c.line-item.result ≤ c.args.size =
    rw c.line-item.is (fits_at 0 c.args.lines.now c.args.size c.loop-line.line-index c.line-item.result c.requires.apart c.loop-line-test.true) in
    omega arith

pub loop-line-preserved : goal.loop-line-preserved
loop-line-preserved c =
    goes_on_at c.args.lines.now c.args.size c.loop-line.line-index c.loop-line.text.items c.push_line.new.text.items c.line-item.result c.loop-line.invariant
    c.loop-line-test.true c.line-item.is c.in_ok-push_line.ensures.spelled c.in_ok-push_line.ensures.bytes
