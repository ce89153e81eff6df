use Rattle.std.proofs.Common.{◌∙◌, ◌++◌, [], ◌∷◌, ap, append-nil, sym}
use Rattle.std.specs.Option.{option_copied}
use Rattle.cx_look_choices.proofs.PressLemmas.{key_none, key_some}
use Rattle.cx_look_choices.proofs.lists.push_key.Goals as goal

pub returns-in_default : goal.returns-in_default
returns-in_default c =
    let old = c.args.keys.now.items in
    sym
    (ap (λ ks. old ++ ks) (key_none c.args.choices.now c.args.number (sym c.choice_at.ensures ∙ ap option_copied c.in_default.is))
    ∙ append-nil old)

pub returns : goal.returns
returns c =
    let old = c.args.keys.now.items in
    c.in_ok-push.ensures.items ∙ ap (λ k. old ++ k ∷ []) c.in_ok-key.ensures
    ∙ sym (ap (λ ks. old ++ ks) (key_some c.args.choices.now c.args.number c.in-Some.choice.now (sym c.choice_at.ensures ∙ ap option_copied c.in-Some.is)))
