use Rattle.std.proofs.Common.{sym, subst, ap, ◌∙◌}
use Rattle.std.specs.Option.{option_copied}
use Rattle.cx_choices.proofs.MoveLemmas.{chooses_by, chooses_none, chooses_not_yet, few_at}
use Rattle.cx_choices.specs.Moves.{numbered}
use Rattle.cx_choices.specs.Settling.{CanAct, IsAtRest}
use Rattle.cx_choices.proofs.moves.Choices.pass_with.Goals as goal

pub returns-in-Some-clause-chosen : goal.returns-in-Some-clause-chosen
returns-in-Some-clause-chosen g c =
    chooses_not_yet c.args.self.now.choices.items c.args.one_number c.args.from.now c.args.number c.in-Some._actor.number c.in-Some._actor.name
    (subst (λ r. CanAct r c.in-Some._actor.number c.in-Some._actor.name) c.in_ok-restore.ensures.ok c.in-Some.ensures.first.acts)

pub returns-in_default-choice-clause-chosen : goal.returns-in_default-choice-clause-chosen
returns-in_default-choice-clause-chosen g c =
    chooses_none c.args.self.now.choices.items c.args.one_number c.args.from.now c.args.number
    (sym c.choice.ensures ∙ ap option_copied c.in_default-choice.is)

pub press-requires : goal.press-requires
press-requires g c =
    few_at c.args.self.now.choices.items c.args.number c.in-Some-choice.choice.now c.args.self.now.few
    (sym c.choice.ensures ∙ ap option_copied c.in-Some-choice.is)

pub returns-clause-chosen : goal.returns-clause-chosen
returns-clause-chosen g c =
    chooses_by c.args.self.now.choices.items c.args.one_number c.args.from.now c.args.number c.in-Some-choice.choice.now c.renumber.new.region
    c.in_ok-passage.passage (subst IsAtRest c.in_ok-restore.ensures.ok c.in_default.ensures.none)
    (sym c.choice.ensures ∙ ap option_copied c.in-Some-choice.is)
    (c.renumber.ensures ∙ ap (numbered c.args.one_number) c.in_ok-restore.ensures.ok) c.in_ok-passage.ensures.pressed
