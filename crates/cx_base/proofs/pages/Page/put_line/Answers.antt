use Rattle.std.proofs.Common.{ap, ◌∙◌, ◌-◌, length}
use Rattle.cx_base.proofs.FieldLemmas.{length-in_columns}
use Rattle.cx_base.proofs.PageLemmas.{set_is_page}
use Rattle.cx_base.proofs.pages.Page.put_line.Goals as goal

pub invariant_of-self : goal.invariant_of-self
invariant_of-self c = set_is_page c.self.inside.lines (c.args.line - 1) c.in_columns.result c.self.invariant (ap length c.in_columns.ensures ∙ length-in_columns 80 _)
