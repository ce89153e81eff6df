use Rattle.std.proofs.Common.{◌∙◌}
use Rattle.cx_look_choices.proofs.ScreenLemmas.{number_known, number_new}
use Rattle.cx_look_choices.proofs.screens.screen_of.Goals as goal

pub returns-in-Some : goal.returns-in-Some
returns-in-Some c =
    number_known c.args.texts.now.items c.as_slice.result.now c.args.text c.as_slice.ensures.value c.number_of.result c.in-Some.number c.in-Some.is
    c.number_of.ensures

pub returns : goal.returns
returns c =
    number_new c.args.texts.now.items c.as_slice.result.now c.args.text c.as_slice.ensures.value c.number_of.result c.push.new.self.items
    c.len-number.result c.in_default.is c.number_of.ensures (c.len-number.ensures ∙ c.args.texts.now.ok.0) c.in_ok-push.ensures.items
