use Rattle.std.proofs.Common.{◌≡◌, drop}
use Rattle.cx_base.specs.Legal.{is_legal_list}
use Rattle.cx_base.proofs.commands.Command.is_legal_list.Given as goal

-- the conditions looked at so far may be there
abbrev pub invariant-loop-i : goal.invariant-loop-i
invariant-loop-i l = is_legal_list l.self (drop l.i l.conditions) ≡ is_legal_list l.self l.conditions
