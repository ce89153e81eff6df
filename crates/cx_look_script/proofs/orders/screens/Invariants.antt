use Rattle.std.proofs.Common.{◌≡◌, ◌++◌, map}
use Rattle.cx_look.specs.declared.orders.Sight.TheVariants as sight
use Rattle.cx_look_script.proofs.orders.screens.Given as goal

abbrev pub invariant-loop-name : goal.invariant-loop-name
invariant-loop-name g l = l.all.items ++ map (λ t. sight.Screen t.0) l.name-iterator ≡ map (λ t. sight.Screen t.0) l.region.terminals
