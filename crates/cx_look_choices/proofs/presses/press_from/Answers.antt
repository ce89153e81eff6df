use Rattle.std.proofs.Common.{refl}
use Rattle.cx_look_choices.proofs.PressLemmas.{chosen_none, chosen_some}
use Rattle.cx_look_choices.proofs.presses.press_from.Goals as goal

pub returns-in_default : goal.returns-in_default
returns-in_default g c =
    chosen_none c.args.choices.now.choices.items c.args.choices.now.one_number c.args.from.now.region c.args.number c.in_ok-passage.field-0
    c.in_ok-passage.ensures.chosen c.in_default.is

pub returns : goal.returns
returns g c = record {
  is = record {
    passage = c.in-Some.passage;
    chooses = chosen_some c.args.choices.now.choices.items c.args.choices.now.one_number c.args.from.now.region c.args.number c.in_ok-passage.field-0
        c.in-Some.passage c.in_ok-passage.ensures.chosen c.in-Some.is;
    made = refl;
    leads = c.in_ok-to.ensures;
  };
  of = refl;
}
