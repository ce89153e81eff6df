use Rattle.std.proofs.Common.{◌∙◌, sym}
use Rattle.cx_edf.specs.Sessions.{after_key}
use Rattle.cx_edf.proofs.TableLemmas.{changed_in_place}
use Rattle.cx_edf.proofs.table.press.Goals as goal

pub returns : goal.returns
returns c = λ other session there.
    (c.get_mut.follows.holds c.press.new.self).0
    ∙ changed_in_place c.args.sessions.now.entries c.args.name (λ s. after_key s c.args.aid c.args.bytes.now) c.in-Some.session.now c.press.new.self (sym c.in-Some.ensures.value) (c.press.ensures other)
