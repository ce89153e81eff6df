use Rattle.std.proofs.Common.{◌≡◌, ◌++◌}
use Rattle.std.specs.Prelude.{filter, is_some}
use Rattle.std.specs.Map.{keys_of}
use Rattle.cx_edf.specs.State.{session_at}
use Rattle.cx_look_script.proofs.orders.names_with_edf.Given as goal

abbrev pub invariant-loop-name : goal.invariant-loop-name
invariant-loop-name g l =
    l.names.items ++ filter (λ name. is_some (session_at l.state name)) (keys_of l.name-iterator)
    ≡ filter (λ name. is_some (session_at l.state name)) (keys_of l.state.region.terminals)
