-- What follows of the blocks of ORDERS and CHOICES.
use Rattle.std.specs.Prelude.{◌≡◌, ℕ, Some, List}
use Rattle.std.specs.List.{AllByRecursion}
use Rattle.cx_orders.specs.declared.states.KeyLine.{KeyLine}
use Rattle.cx_region.specs.declared.replies.Event.TheVariants as event
use Rattle.cx_script_actions.specs.Actions.{event_line, line_of}
use Rattle.cx_look.specs.Choices.{choices_block}
use Rattle.cx_look.specs.Orders.{orders_block}
use Rattle.cx_look.specs.declared.choices.ChoicesAsked.{ChoicesAsked}
use Rattle.cx_look.specs.declared.orders.OrdersAsked.{OrdersAsked}

-- as a line of a script of `cicsedf` the key's line asks for that key: at its terminal, with its bytes
abbrev pub IsAskedByItsLine : KeyLine → Type 0
IsAskedByItsLine key = line_of key.line ≡ Some (event_line (event.Key key.name key.aid key.bytes))

-- each key of a block of ORDERS is asked by its line
abbrev pub KeysAreAskedByTheirLines : Type 0
KeysAreAskedByTheirLines =
    (asked : OrdersAsked) (lines : List (List ℕ)) → AllByRecursion IsAskedByItsLine (orders_block asked lines).keys

-- and each key of a block of CHOICES: by one of the lines that its KEY line stands for
abbrev pub ChoicesAreAskedByTheirLines : Type 0
ChoicesAreAskedByTheirLines =
    (asked : ChoicesAsked) (lines : List (List ℕ)) → AllByRecursion IsAskedByItsLine (choices_block asked lines).choices
