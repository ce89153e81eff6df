use Rattle.std.proofs.Common.{◌∙◌, Some, ap, sym}
use Rattle.cx_edf.specs.Sessions.{after_reply}
use Rattle.cx_edf.proofs.TableLemmas.{changed_in_place}
use Rattle.cx_edf.proofs.table.note.Goals as goal

pub returns : goal.returns
returns g c =
    (c.get_mut.follows.holds c.note.new.self).0
    ∙ changed_in_place c.args.sessions.now.entries c.args.name (λ s. Some (after_reply s c.args.turn.now (g.M.MakesDisplays.make c.args.region.now c.args.name))) c.in-Some.session.now c.note.new.self
    (sym c.in-Some.ensures.value) (ap (λ s. Some s) (sym c.note.ensures))
