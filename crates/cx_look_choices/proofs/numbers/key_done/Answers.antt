use Rattle.std.proofs.Common.{◌≡◌, subst}
use Rattle.cx_look_choices.specs.Rows.{passage_incidents}
use Rattle.cx_look_choices.proofs.PressLemmas.{chosen_none, chosen_some}
use Rattle.cx_look_choices.proofs.numbers.key_done.Goals as goal

pub returns-in_default : goal.returns-in_default
returns-in_default g c =
    chosen_none c.args.choices.now.choices.items c.args.one_number c.args.from.now.region c.args.number c.in_ok-passage.field-0
    c.in_ok-passage.ensures.chosen c.in_default.is

pub returns : goal.returns
returns g c =
    let choices = c.args.choices.now.choices.items in
    let passage = c.in-Some.passage in
    record {
      passage = passage;
      chooses = chosen_some choices c.args.one_number c.args.from.now.region c.args.number c.in_ok-passage.field-0 passage c.in_ok-passage.ensures.chosen
          c.in-Some.is;
      leads = c.in_ok-to.ensures;
      is = subst (λ keys. c.in_ok-incidents.incidents ≡ passage_incidents c.args.region.now keys c.args.number passage) c.as_slice-keys.ensures.value
          c.in_ok-incidents.ensures;
    }
