use Rattle.std.proofs.Common.{◌∙◌}
use Rattle.cx_asm_image.proofs.TextLemmas.{is_assembled}
use Rattle.cx_asm_image.proofs.assembled.Assembled.new.Goals as goal

pub invariant_of-result : goal.invariant_of-result
invariant_of-result c =
    is_assembled c.args.resolved.items c.args.size c.from_vec.result c.in_ok-spans.spans.items _ _ _ c.requires.apart
    c.requires.fits (rw c.as_slice.ensures.value at c.in_ok-text.ensures.spelled) (c.from_vec.ensures ∙ rw c.as_slice.ensures.value at c.in_ok-text.ensures.text)
    (rw c.as_slice-2.ensures.value at c.in_ok-spans.ensures) c.canonical_is.ensures
