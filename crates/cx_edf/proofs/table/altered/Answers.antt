use Rattle.std.proofs.Common.{◌∙◌, Some, ap, sym}
use Rattle.cx_edf.specs.Sessions.{session_after_change}
use Rattle.cx_edf.proofs.TableLemmas.{changed_in_place}
use Rattle.cx_edf.proofs.table.altered.Goals as goal

pub returns : goal.returns
returns g c =
    (c.get_mut.follows.holds c.alter.new.self).0
    ∙ changed_in_place c.args.sessions.now.entries c.args.name (λ s. Some (session_after_change s c.args.change (g.M.MakesDisplays.make c.args.region.now c.args.name))) c.in-Some.session.now c.alter.new.self
    (sym c.in-Some.ensures.value) (ap (λ s. Some s) (sym c.alter.ensures))
