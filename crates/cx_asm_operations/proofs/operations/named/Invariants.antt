use Rattle.std.proofs.Common.{◌≡◌, drop, map}
use Rattle.std.specs.Map.{lookup}
use Rattle.std.specs.Str.{bytes_eq}
use Rattle.cx_asm_operations.proofs.operations.named.Given as goal

abbrev pub invariant-loop-row : goal.invariant-loop-row
invariant-loop-row g l =
    lookup (bytes_eq l.name) (map (λ row. (row.0.now, row.1)) (drop l.row-index l.rows)) ≡ lookup (bytes_eq l.name) (map (λ row. (row.0.now, row.1)) l.rows)
