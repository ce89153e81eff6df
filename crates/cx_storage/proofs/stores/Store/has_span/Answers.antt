use Rattle.std.proofs.Common.{sym, ◌∙◌, arith, ◌-◌}
use Rattle.cx_storage.proofs.WriteLemmas.{span_zero}
use Rattle.cx_storage.proofs.stores.Store.has_span.Goals as goal

pub returns : goal.returns
returns g c = sym (sym c.tested.invariant.1 ∙ span_zero (g.Self.Store.storage c.args.self.now) c.tested.at (c.args.n - c.tested._k) (omega arith))
