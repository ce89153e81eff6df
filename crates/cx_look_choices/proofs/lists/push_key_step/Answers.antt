use Rattle.std.proofs.Common.{◌∙◌, ◌++◌, [], ◌∷◌, ℕ, None, Some, ap, append-nil, map, sym}
use Rattle.std.specs.Option.{option_copied}
use Rattle.cx_look_steps.specs.declared.steps.Step.{Step}
use Rattle.cx_look_choices.specs.Presses.{key_step, terminal_number}
use Rattle.cx_look_choices.proofs.PressLemmas.{key_none, key_some}
use Rattle.cx_look_choices.proofs.lists.push_key_step.Goals as goal

abbrev step_with : ℕ → ℕ → Step
step_with number came = record { number = number; key = Some came; told = None }

pub returns-in_default : goal.returns-in_default
returns-in_default g c =
    let old = c.args.steps.now.items in
    let step = key_step c.args.region.now c.args.before.now in
    sym
    (ap (λ ks. old ++ map step ks) (key_none c.args.choices.now c.args.number (sym c.choice_at.ensures ∙ ap option_copied c.in_default.is))
    ∙ append-nil old)

pub returns : goal.returns
returns g c =
    let old = c.args.steps.now.items in
    let region = c.args.region.now in
    let step = key_step region c.args.before.now in
    let choice = c.in-Some.choice.now in
    c.in_ok-push.ensures.items ∙ ap (λ n. old ++ step_with n c.many_of-came.result ∷ []) c.terminal_number.ensures
    ∙ ap (λ came. old ++ step_with (terminal_number region choice.name) came ∷ []) c.many_of-came.ensures
    ∙ sym (ap (λ ks. old ++ map step ks) (key_some c.args.choices.now c.args.number choice (sym c.choice_at.ensures ∙ ap option_copied c.in-Some.is)))
