-- The lines that use something, as they are kept (own).
use Rattle.std.specs.Prelude.{ℕ, Bool, false, ◌&&◌, ◌==◌, if◌then◌else◌, List, []}
use Rattle.std.specs.BTreeSet.{BTreeSet, insert_key}
use Rattle.std.specs.List.{list_any}
use Rattle.std.specs.Map.{lookup}
use Rattle.std.specs.Option.{option_map_or}
use Rattle.std.specs.Ordering.{nat_cmp}
use Rattle.std.specs.Str.{bytes_eq}
use Rattle.cx_asm_pools.specs.Pools.{literal_text}
use Rattle.cx_asm_expressions.specs.Names.{is_same}
use Rattle.cx_look_xref.specs.declared.literals.PoolText.{PoolText}

-- those of the first key that passes a test
abbrev pub lines_for : {K : Type 0} → (K → Bool) → List (K × BTreeSet ℕ) → List ℕ
lines_for test entries = option_map_or (λ lines. lines.keys) (lookup test entries) []

-- with a line, where it uses something
abbrev pub with_line : Bool → ℕ → List ℕ → List ℕ
with_line uses line lines = if uses then insert_key nat_cmp lines line else lines

-- those of a name
abbrev pub lines_of_name : List (List ℕ × BTreeSet ℕ) → List ℕ → List ℕ
lines_of_name entries name = lines_for (is_same name) entries

-- the literal of a text in the pool of a number
abbrev pub is_pool_literal : ℕ → List ℕ → PoolText → Bool
is_pool_literal pool text literal = (pool == literal.pool) && bytes_eq text literal.text.now

-- Operands of an instruction, whose pool has the number `place`, use the literal of a text in the pool of a second
-- number.
abbrev pub uses_part : ℕ → List ℕ → ℕ → List (List ℕ) → Bool
uses_part pool text place parts =
    (pool == place) && list_any (λ part. option_map_or (bytes_eq text) (literal_text part) false) parts

-- those of a literal
abbrev pub lines_of_literal : List (PoolText × BTreeSet ℕ) → ℕ → List ℕ → List ℕ
lines_of_literal entries pool text = lines_for (is_pool_literal pool text) entries
