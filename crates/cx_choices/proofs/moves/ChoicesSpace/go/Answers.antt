use Rattle.cx_choices.proofs.MoveLemmas.{goes_by, goes_nowhere}
use Rattle.cx_choices.proofs.moves.ChoicesSpace.go.Goals as goal

pub returns-in_default : goal.returns-in_default
returns-in_default g c =
    goes_nowhere c.calls_decide.ensures.turns c.calls_decide.ensures.keys c.args.self.now.choices.items c.args.self.now.one_number c.args.from.now
    c.args.number c.in_ok-passage.field-0 c.in_ok-passage.ensures.chosen c.in_default.is

pub returns : goal.returns
returns g c =
    goes_by c.calls_decide.ensures.turns c.calls_decide.ensures.keys c.args.self.now.choices.items c.args.self.now.one_number c.args.from.now
    c.args.number c.in_ok-passage.field-0 c.in-Some.passage c.in_ok-to.to c.in_ok-passage.ensures.chosen c.in-Some.is c.in_ok-to.ensures
