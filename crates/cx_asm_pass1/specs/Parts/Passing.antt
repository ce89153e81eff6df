-- What a pass knows (own).
use Rattle.std.specs.Prelude.{ℕ, unwrap_or, List}
use Rattle.std.specs.Map.{lookup}
use Rattle.cx_asm_expressions.specs.Names.{is_same}
use Rattle.cx_asm_expressions.specs.Symbols.{find_in}
use Rattle.cx_asm_pass1.specs.PassState.{PassState}
use Rattle.cx_asm_pass1.specs.declared.pass.Pass.{Pass}

abbrev pub Lengths : Type 0
Lengths = List (List ℕ × ℕ)

abbrev pub length_in : Lengths → List ℕ → ℕ
length_in lengths name = unwrap_or (lookup (is_same name) lengths) 0

abbrev pub state_of : Pass → PassState
state_of pass =
    record {
      section = pass.section;
      control = pass.control;
      lengths = length_in pass.lengths.entries;
      symbols = find_in pass.symbols;
      pool = pass.pool;
      pools = pass.pools.items;
      places = pass.places.items;
      fault = pass.fault;
    }
