use Rattle.std.proofs.Common.{◌≡◌, ◌++◌, drop, map}
use Rattle.cx_translate.specs.Expansion.{load}
use Rattle.cx_translate.proofs.expansion.push_loads.Given as goal

abbrev pub invariant-loop-register : goal.invariant-loop-register
invariant-loop-register l = l.made.items ++ map load (drop l.register-index l.registers) ≡ l.fn.made.items ++ map load l.registers
