-- Literals and their pools (GC33-4010, "Literals" and "Literal Pool").
use Rattle.std.specs.Prelude.{◌≡◌, ℕ, ◌+◌, ◌%◌, false, ◌==◌, nat_le, if◌then◌else◌, is_some, Option, Some, None, option_and_then, Result, is_ok, List, [], ◌∷◌, ◌++◌, map, take, drop, slice_index, sum_by, fold}
use Rattle.std.specs.List.{filter}
use Rattle.std.specs.Map.{lookup}
use Rattle.std.specs.Option.{option_map_or}
use Rattle.std.specs.Result.{result_err, result_ok}
use Rattle.std.specs.Str.{byte, bytes_eq}
use Rattle.std.specs.Borrow.{Bor}
use Rattle.cx_asm_expressions.specs.Digits.{bound}
use Rattle.cx_asm_expressions.specs.Items.{Constant, constant_in, size_of}
use Rattle.cx_asm_expressions.specs.declared.faults.FaultKind.{FaultKind}
use Rattle.cx_asm_pools.specs.declared.open.Used.{Used}
use Rattle.cx_asm_pools.specs.declared.closed.Literal.{Literal}

-- A place or a length beyond the bound of all numbers counts as one more than it (own).
abbrev pub cap : ℕ → ℕ
cap n = if nat_le n bound then n else bound + 1

-- ---- while a pool is open
-- the literals of a pool by their texts, in order of first use
abbrev pub OpenLiterals : Type 0
OpenLiterals = List (List ℕ × Used)

-- equal texts occur once
abbrev pub with_literal : OpenLiterals → List ℕ → Used → OpenLiterals
with_literal pool text used = if is_some (lookup (bytes_eq text) pool) then pool else pool ++ (text, used) ∷ []

-- an operand that begins with an equals sign is a literal, and what follows the sign is its text
abbrev pub literal_text : List ℕ → Option (List ℕ)
literal_text part = if slice_index part 0 == byte "=" then Some (drop 1 part) else None

-- how many bytes a constant has, with its duplication; none where it is no constant
abbrev pub constant_size : Result Constant FaultKind → ℕ
constant_size read = option_map_or size_of (result_ok read) 0

-- how many bytes a literal has, by its text
abbrev pub literal_size : List ℕ → ℕ
literal_size text = constant_size (constant_in false text)

-- with an operand of the statement of this number, where it is a literal without a fault
abbrev pub with_part : ℕ → OpenLiterals → List ℕ → OpenLiterals
with_part user pool part =
    let put : List ℕ → OpenLiterals = λ text.
    with_literal pool text (record { size = literal_size text; user = user }) in
    option_map_or (λ text. if is_ok (constant_in false text) then put text else pool) (literal_text part) pool

-- with all operands of the statement
abbrev pub with_parts : ℕ → OpenLiterals → List (List ℕ) → OpenLiterals
with_parts user pool parts = fold (with_part user) pool parts

-- what is wrong with an operand that is a literal: it is no constant, or its lengths are outside their limits
abbrev pub literal_constant_fault : List ℕ → Option FaultKind
literal_constant_fault part = option_and_then (λ text. result_err (constant_in false text)) (literal_text part)

-- Of several operands that may be literals the first ones are in.
pub record UsesFirst (user : ℕ) (parts : List (List ℕ)) (old new : OpenLiterals) : Type 0 where
  pub count : ℕ
  pub used : new ≡ with_parts user old (take count parts)

-- how many bytes the literals have together
abbrev pub pool_size : OpenLiterals → ℕ
pool_size pool = cap (sum_by (λ e. e.1.size) pool)

abbrev pub pool_extent : OpenLiterals → Option ℕ
pool_extent [] = None
pool_extent (e ∷ es) = Some (pool_size (e ∷ es))

-- ---- where a pool's literals are
-- the greatest of 8, 4, 2 and 1 that divides a length
abbrev pub group_of : ℕ → ℕ
group_of size = if size % 8 == 0 then 8 else (if size % 4 == 0 then 4 else (if size % 2 == 0 then 2 else 1))

abbrev pub of_group : ℕ → OpenLiterals → OpenLiterals
of_group group pool = filter (λ e. group_of e.1.size == group) pool

-- the literals by their groups, in each in order of first use
abbrev pub by_groups : OpenLiterals → OpenLiterals
by_groups pool = of_group 8 pool ++ of_group 4 pool ++ of_group 2 pool ++ of_group 1 pool

-- the literals of a pool by their texts, in the order of their places
abbrev pub PlacedLiterals : Type 0
PlacedLiterals = List (List ℕ × Literal)

-- They are placed one after the other, from an offset on.
abbrev pub placed_from : ℕ → OpenLiterals → PlacedLiterals
placed_from offset [] = []
placed_from offset (e ∷ es) =
    (e.0, record { offset = offset; user = e.1.user }) ∷ placed_from (cap (offset + e.1.size)) es

-- the literals of a pool that begins at an offset
abbrev pub closed_pool : ℕ → OpenLiterals → PlacedLiterals
closed_pool offset pool = placed_from offset (by_groups pool)

-- a table by borrowed texts, as one by the texts themselves
abbrev pub by_text : {V : Type 0} → List (Bor (List ℕ) × V) → List (List ℕ × V)
by_text {V} es = map {B = List ℕ × V} (λ e. (e.0.now, e.1)) es
