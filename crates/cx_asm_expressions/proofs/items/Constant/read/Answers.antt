use Rattle.std.proofs.Common.{◌≡◌, Some, ap, ◌∙◌, rules}
use Rattle.std.specs.Prelude.{slice_index}
use Rattle.cx_asm_expressions.specs.Items.{with_modifier}
use Rattle.cx_asm_expressions.specs.Kinds.{kind_of}
use Rattle.cx_asm_expressions.proofs.ItemLemmas.{kind_read}
use Rattle.cx_asm_expressions.proofs.items.Constant.read.Goals as goal

pub returns-in-Some : goal.returns-in-Some
returns-in-Some c =
    let digits = c.split_digits.result.0.now in
    let rest = c.split_digits.result.1.now in
    let kind : kind_of (slice_index rest 0) ≡ Some c.in-Some.kind = search rules in
    c.with_modifier.ensures ∙ ap (with_modifier c.args.is_ds digits c.in-Some.kind) c.after_first.ensures
    ∙ kind_read c.args.is_ds c.args.text.now digits rest c.in-Some.kind c.split_digits.ensures.digits c.split_digits.ensures.after kind
