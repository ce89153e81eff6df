use Rattle.std.proofs.Common.{◌≡◌, ◌++◌, drop}
use Rattle.cx_translate.specs.Expansion.{stores}
use Rattle.cx_translate.proofs.expansion.push_stores.Given as goal

abbrev pub invariant-loop-place : goal.invariant-loop-place
invariant-loop-place l = l.made.items ++ stores l.place (drop l.place l.list) ≡ l.fn.made.items ++ stores 0 l.list
