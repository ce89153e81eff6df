use Rattle.std.proofs.Common.{◌∙◌, ◌≡◌, List, ap, subst, sym, ℕ}
use Rattle.std.specs.Prelude.{option_map, slice_get}
use Rattle.std.proofs.lemmas.Option.{none-some, same_Some}
use Rattle.cx_region.specs.State.{RegionState, TerminalState}
use Rattle.cx_region.specs.Turn.{TakesTurn}
use Rattle.cx_look_orders.proofs.steps.told_at.Goals as goal

pub returns-in_default : goal.returns-in_default
returns-in_default g c = λ name terminal reply after at takes.
    absurd
    (none-some name
    (sym c.in_default.is ∙ c.name_at.ensures
    ∙ ap (λ (r : RegionState). option_map (λ (entry : List ℕ × TerminalState). entry.0) (slice_get r.terminals c.args.number)) c.in_ok-restore.ensures.ok
    ∙ ap (λ o. option_map (λ (entry : List ℕ × TerminalState). entry.0) o) at))

pub returns : goal.returns
returns g c = λ name terminal reply after at takes.
    let tells = g.V.Seen.tells c.args.seen.now in
    let region = c.args.from.now.region in
    let same : c.in-Some.name ≡ name =
    same_Some c.in-Some.name name
    (sym c.in-Some.is ∙ c.name_at.ensures
    ∙ ap (λ (r : RegionState). option_map (λ (entry : List ℕ × TerminalState). entry.0) (slice_get r.terminals c.args.number)) c.in_ok-restore.ensures.ok
    ∙ ap (λ o. option_map (λ (entry : List ℕ × TerminalState). entry.0) o) at) in
    subst (λ n. c.in_ok-text.text ≡ tells region n reply) same
    (c.in_ok-text.ensures reply after (subst (λ n. TakesTurn region n reply after) (sym same) takes))
