use Rattle.std.proofs.Common.{◌≡◌, ◌≤◌, ℕ, List, [], drop, unwrap_or}
use Rattle.std.specs.Prelude.{pos, unsigned_abs}
use Rattle.std.specs.Map.{lookup}
use Rattle.cx_asm_expressions.specs.Names.{is_same}
use Rattle.cx_asm_expressions.specs.Parts.Sections.{weights_from}
use Rattle.cx_asm_expressions.proofs.weights.weights.Given as goal

abbrev pub invariant-loop-value : goal.invariant-loop-value
invariant-loop-value l =
    record {
      light : (name : List ℕ) → unsigned_abs (unwrap_or (lookup (is_same name) l.weights.entries) (pos 0)) ≤ l.value-index;
      goes_on : weights_from l.weights.entries (drop l.value-index l.values) ≡ weights_from [] l.values;
    }
