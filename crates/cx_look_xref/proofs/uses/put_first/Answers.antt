use Rattle.std.proofs.Common.{ap, ◌∙◌}
use Rattle.std.specs.BTreeSet.{insert_key}
use Rattle.std.specs.Ordering.{nat_cmp}
use Rattle.cx_look_xref.proofs.UseLemmas.{put_new}
use Rattle.cx_look_xref.proofs.uses.put_first.Goals as goal

pub returns : goal.returns
returns g c =
    λ test reads.
    put_new g.met.K.Eq.laws test reads c.args.table.now.entries c.insert-2.new.self.entries c.args.key c.insert.new.self c.args.line c.requires
    (c.in_ok-insert.ensures.keys ∙ ap (λ keys. insert_key nat_cmp keys c.args.line) c.new-lines.ensures.empty) c.in_ok-insert-2.ensures.entries
