use Rattle.std.proofs.Common.{◌≡◌, ◌++◌, length}
use Rattle.cx_look_orders.specs.Rest.{keys_text}
use Rattle.cx_look_orders.proofs.rest.keys_text.Given as goal

abbrev pub invariant-loop-key : goal.invariant-loop-key
invariant-loop-key g l = l.report ++ keys_text l.state l.keys l.rest ≡ l.initial.report ++ keys_text l.state l.keys l.keys

abbrev pub decreases-loop-key : goal.decreases-loop-key
decreases-loop-key g l = length l.rest
