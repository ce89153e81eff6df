use Rattle.std.proofs.Common.{◌≡◌, fold}
use Rattle.std.specs.BTreeMap.{insert_entry}
use Rattle.std.specs.Cmp.Lexicographic.{slice_cmp}
use Rattle.std.specs.Ordering.{nat_cmp}
use Rattle.cx_look_symbols.specs.Texts.{in_order}
use Rattle.cx_look_symbols.proofs.all.in_order.Given as goal

abbrev pub invariant-loop-name : goal.invariant-loop-name
invariant-loop-name l = fold (λ sorted row. insert_entry (slice_cmp nat_cmp) sorted row.0 row.1) l.sorted.entries l.name-iterator ≡ in_order l.symbols.entries
