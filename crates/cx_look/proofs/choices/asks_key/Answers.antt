use Rattle.std.proofs.Common.{ap, codes, is_some, sym, ◌∙◌}
use Rattle.std.specs.Option.{option_and_then}
use Rattle.cx_script_actions.specs.Actions.{line_asked_for}
use Rattle.cx_look.proofs.ChoiceLemmas.{after_none, after_some}
use Rattle.cx_look.proofs.KeyLemmas.{asks}
use Rattle.cx_look.proofs.choices.asks_key.Goals as goal

pub returns-in-Some : goal.returns-in-Some
returns-in-Some c =
    c.is_key_asked_by.ensures
    ∙ ap (λ o. is_some (option_and_then (line_asked_for (codes "KEY")) o))
    (sym (after_some c.split_word.result.1 c.in-Some.rest c.args.text.now c.split_word.ensures.after c.in-Some.is))
    ∙ asks c.args.text.now c.requires.more c.requires.key

pub returns-in-None : goal.returns-in-None
returns-in-None c =
    ap (λ o. is_some (option_and_then (line_asked_for (codes "KEY")) o))
    (sym (after_none c.split_word.result.1 c.args.text.now c.split_word.ensures.after c.in-None.is))
    ∙ asks c.args.text.now c.requires.more c.requires.key
