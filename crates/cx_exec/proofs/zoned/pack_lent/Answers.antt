use Rattle.std.proofs.Common.{rules, arith}
use Rattle.cx_storage.specs.Facts.Spans.{span_length}
use Rattle.cx_exec.proofs.ZonedLemmas.{all_zero, aligned_is_packed}
use Rattle.cx_exec.proofs.zoned.pack_lent.Goals as goal

pub align-requires-clause-zeros : goal.align-requires-clause-zeros
align-requires-clause-zeros g c = all_zero 33

pub returns-clause-bytes : goal.returns-clause-bytes
returns-clause-bytes g c _ =
    let apart = c.lie_apart.ensures (search rules) in
    aligned_is_packed _ _ _ _ _ _ _ _
    (record {
      some1 = c.args.lengths.some1;
      some2 = c.args.lengths.some2;
      few = omega (arith, c.args.lengths.few2);
      fits1 = apart.0;
      fits2 = c.in-Some.ensures.no_wrap;
      apart = apart.1;
      there = c.in-Some.ensures.bytes;
      long = span_length _ _ _ _ c.in-Some.ensures.bytes;
      prefix = c.align.ensures.prefix;
      each = c.align.ensures.bytes;
    })
    (omega (arith, c.args.lengths.few1)) c.pack_aligned.array_long c.pack_aligned.ensures.each c.pack_aligned.ensures.last
