use Rattle.std.proofs.Common.{◌≡◌, ◌≤◌, ◌+◌, ◌++◌, drop}
use Rattle.std.specs.List.{IsDistinct}
use Rattle.std.specs.Map.{keys_of}
use Rattle.std.specs.Str.{bytes_eq}
use Rattle.cx_asm_expressions.specs.Digits.{bound}
use Rattle.cx_asm_pools.specs.Pools.{placed_from, by_text}
use Rattle.cx_asm_pools.proofs.closed.put_all.Given as goal

abbrev pub invariant-loop-entry : goal.invariant-loop-entry
invariant-loop-entry l =
    record {
      within : l.at ≤ bound + 8;
      once : IsDistinct bytes_eq (keys_of (by_text l.table.entries) ++ keys_of (by_text (drop l.entry-index l.list)));
      goes_on : by_text l.table.entries ++ placed_from l.at (by_text (drop l.entry-index l.list)) ≡ by_text l.initial.table.entries ++ placed_from l.initial.at (by_text l.list);
    }
