use Rattle.std.proofs.Common.{arith, sym, ◌∙◌}
use Rattle.cx_storage.specs.Facts.Spans.{span_length}
use Rattle.cx_exec.proofs.BlockLemmas.{spans_are_joined}
use Rattle.cx_exec.proofs.strings.join_stored.Goals as goal

pub join_bytes-requires-clause-same : goal.join_bytes-requires-clause-same
join_bytes-requires-clause-same g c = span_length _ _ _ _ c.in-Some.ensures.bytes ∙ sym (span_length _ _ _ _ c.in-Some-slice.ensures.bytes)

pub join_bytes-requires-clause-room : goal.join_bytes-requires-clause-room
join_bytes-requires-clause-room g c = sym (span_length _ _ _ _ c.in-Some.ensures.bytes)

pub returns-in-Some-slice-clause-bytes : goal.returns-in-Some-slice-clause-bytes
returns-in-Some-slice-clause-bytes g c = λ _.
    spans_are_joined _ _ _ _ _ _ _ c.args.at.first c.args.at.second (omega (arith, c.requires.count)) c.requires.outside
    c.in-Some.ensures.bytes c.in-Some-slice.ensures.bytes c.join_bytes.ensures.size
    (λ k h. c.join_bytes.ensures.each k (omega (arith, h, span_length _ _ _ _ c.in-Some.ensures.bytes)))
