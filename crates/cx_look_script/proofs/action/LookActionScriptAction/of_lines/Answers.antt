use Rattle.std.proofs.Common.{◌≡◌, ◌≤◌, ℕ, List, ap, arith, subst, sym}
use Rattle.cx_look.specs.Choices.{choices_block}
use Rattle.cx_look.specs.declared.choices.ChoicesAsked.{ChoicesAsked}
use Rattle.cx_look.specs.declared.choices.ChoicesBlock.{ChoicesBlock}
use Rattle.cx_look.specs.Orders.{orders_block}
use Rattle.cx_look.specs.declared.orders.OrdersAsked.{OrdersAsked}
use Rattle.cx_look.specs.declared.orders.OrdersBlock.{OrdersBlock}
use Rattle.cx_look_script.proofs.action.LookActionScriptAction.of_lines.Goals as goal

-- a block asks for as many states as its first line says
most_stays : (asked : OrdersAsked) (lines : List (List ℕ)) (block : OrdersBlock) → block ≡ orders_block asked lines → 1 ≤ asked.most → 1 ≤ block.most
unfolding orders_block
most_stays asked lines block is enough = subst (λ n. 1 ≤ n) (sym (ap (λ (b : OrdersBlock). b.most) is)) enough

pub returns-in_ok-block-in-Orders-clause-allowed : goal.returns-in_ok-block-in-Orders-clause-allowed
returns-in_ok-block-in-Orders-clause-allowed c = (
  most_stays c.in-Orders.asked c.as_slice.result.now c.in_ok-block-in-Orders.block c.in_ok-block-in-Orders.ensures.value (omega arith),
  c.in_ok-block-in-Orders.ensures.keys_in_range,
)

asked_stays : (asked : ChoicesAsked) (lines : List (List ℕ)) (block : ChoicesBlock) → block ≡ choices_block asked lines → block.asked ≡ asked
unfolding choices_block
asked_stays asked lines block is = ap (λ (b : ChoicesBlock). b.asked) is

pub returns-in_ok-block-in-Choices-clause-allowed : goal.returns-in_ok-block-in-Choices-clause-allowed
returns-in_ok-block-in-Choices-clause-allowed c =
    let same = asked_stays c.in-Choices.asked c.as_slice-in-Choices.result.now c.in_ok-block-in-Choices.block c.in_ok-block-in-Choices.ensures.value in (
      subst (λ (a : ChoicesAsked). 1 ≤ a.keys) (sym same) (omega arith),
      subst (λ (a : ChoicesAsked). 1 ≤ a.most) (sym same) (omega arith),
      c.in_ok-block-in-Choices.ensures.keys_in_range,
    )
