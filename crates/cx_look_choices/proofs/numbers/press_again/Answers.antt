use Rattle.std.proofs.Common.{◌∙◌, refl, sym, true≢false}
use Rattle.std.specs.Prelude.{None}
use Rattle.cx_look_choices.proofs.NumberLemmas.{press_made}
use Rattle.cx_look_choices.proofs.PressLemmas.{chosen_none, chosen_some}
use Rattle.cx_look_choices.proofs.numbers.press_again.Goals as goal

pub returns-in_default : goal.returns-in_default
returns-in_default g c = λ to is.
    chosen_none c.args.choices.now.choices.items None c.args.from.now.region c.args.press.now.choice c.in_ok-passage.field-0
    c.in_ok-passage.ensures.chosen c.in_default.is is.passage is.chooses

pub returns-then-not-are_same_items : goal.returns-then-not-are_same_items
returns-then-not-are_same_items g c =
    let choices = c.args.choices.now.choices.items in
    let passage = c.in-Some.passage in
    press_made c.choices_decide.ensures.passages choices c.args.from.now c.args.press.now passage passage.made refl
    (chosen_some choices None c.args.from.now.region c.args.press.now.choice c.in_ok-passage.field-0 passage c.in_ok-passage.ensures.chosen c.in-Some.is)
    (λ e. true≢false (sym (c.are_same_items.ensures.1 (c.as_slice.ensures ∙ e ∙ sym c.as_slice-2.ensures)) ∙ c.if-not-are_same_items.true))

pub returns : goal.returns
returns g c =
    let choices = c.args.choices.now.choices.items in
    let passage = c.in-Some.passage in
    record {
      passage = passage;
      chooses = chosen_some choices None c.args.from.now.region c.args.press.now.choice c.in_ok-passage.field-0 passage c.in_ok-passage.ensures.chosen
          c.in-Some.is;
      made = sym c.as_slice.ensures ∙ c.are_same_items.ensures.0 c.if-not-are_same_items.false ∙ c.as_slice-2.ensures;
      leads = c.in_ok-to.ensures;
    }
