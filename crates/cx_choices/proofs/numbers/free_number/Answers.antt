use Rattle.std.proofs.Common.{◌≡◌, ◌∙◌, ◌+◌, ◌<◌, ap, arith, length, subst, sym, true}
use Rattle.cx_region.specs.Attach.{next_number}
use Rattle.cx_choices.proofs.NumberLemmas.{IsOnWay, way_begins, way_goes_on}
use Rattle.cx_choices.specs.Moves.{is_given}
use Rattle.cx_choices.proofs.numbers.free_number.Goals as goal

pub loop-init : goal.loop-init
loop-init g c = (way_begins c.args.region.now.terminals c.args.number, c.requires)

pub loop-preserved : goal.loop-preserved
loop-preserved g c =
    let terminals = c.args.region.now.terminals in
    let next = c.next_number-next in
    let all : c.len-end.result ≡ length terminals = c.len-end.ensures.len ∙ ap length c.terminals.ensures in
    let within : c.loop.counter < length terminals = omega (arith, all, c.loop-test.true) in
    let given : is_given terminals (next_number c.loop.last) ≡ true =
    subst (λ n. is_given terminals n ≡ true) next.ensures.is (sym c.is_given.ensures ∙ c.if-not-is_given.false) in (
      subst (IsOnWay terminals c.args.number (c.loop.counter + 1)) (sym next.ensures.is)
          (way_goes_on terminals c.args.number c.loop.counter c.loop.last c.loop.invariant.0 within given),
      next.ensures.small,
    )
