use Rattle.std.proofs.Common.{◌++◌, encode_utf8, rules, arith}
use Rattle.std.proofs.Output.{has_written_append, has_written_of_eq}
use Rattle.std.proofs.lemmas.Grind.{common_steps}
use Rattle.cx_script_main.proofs.LineLemmas.{all_written, one_more}
use Rattle.cx_script_main.proofs.shown.ShownLineDisplay.fmt.Goals as goal

pub bytes-preserved : goal.bytes-preserved
bytes-preserved g c =
    λ plain.
    let now = c.bytes.invariant plain in (
      now.0 ++ encode_utf8 c.shown_char.result,
      has_written_append _ _ _ _ _ _ now.1 (search rules),
      one_more now.0 _ _ _ _ c.shown_char.result c.shown_char.ensures (grind (arith, common_steps)) now.2,
    )

pub returns-clause-writes : goal.returns-clause-writes
returns-clause-writes g c =
    λ plain _.
    let now = c.bytes.invariant plain in
    has_written_of_eq _ _ _ _ _
    (all_written now.0 c.in_front-shown.result.now c.args.self.now.line.now c.bytes.c-index c.bytes-test.false (search rules) now.2) now.1
