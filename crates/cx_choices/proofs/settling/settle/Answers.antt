use Rattle.std.proofs.Common.{ap, arith, refl, length, length-append, subst, sym, ◌≡◌, ◌∷◌, ◌++◌, []}
use Rattle.cx_choices.specs.Settling.{MakesTurns}
use Rattle.cx_choices.specs.declared.states.TurnMade.{TurnMade}
use Rattle.cx_choices.proofs.SettlingLemmas.{makes_none, makes_on}
use Rattle.cx_choices.proofs.settling.settle.Goals as goal

pub loop-init : goal.loop-init
loop-init g c =
    subst (λ made. MakesTurns c.args.region.now made c.args.region.now × (length made ≡ 0)) (sym c.new-made.ensures.items) (makes_none c.args.region.now, refl)

pub loop-preserved : goal.loop-preserved
loop-preserved g c =
    let turn : TurnMade = record { number = c.in-Some.actor.number; reply = c.in_ok-reply.reply } in
    let many : length c.push.new.self.items ≡ length (c.loop.made.items ++ turn ∷ []) = ap length c.in_ok-push.ensures.items in (
      subst (λ made. MakesTurns c.args.region.now made c.turn.new.self) (sym c.in_ok-push.ensures.items)
          (makes_on c.args.region.now c.loop.made.items c.loop.region turn c.in-Some.actor.name c.turn.new.self c.loop.invariant.0
          c.in-Some.ensures.first c.in_ok-reply.ensures.turned),
      omega (arith, many, length-append c.loop.made.items (turn ∷ []), c.loop.invariant.1),
    )
