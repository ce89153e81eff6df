-- What is known by the whole source, and what a statement's operand is read by (GC33-4010, "Symbols", "Location Counter
-- Reference", "Literals").
use Rattle.std.specs.Prelude.{ℕ, Bool, false, Option, None, option_and_then, unwrap_or, Result, List, [], slice_get, option_map}
use Rattle.std.specs.Map.{lookup}
use Rattle.std.specs.Str.{bytes_eq}
use Rattle.cx_asm_expressions.specs.Items.{constant_in}
use Rattle.cx_asm_expressions.specs.Bytes.{CopyOfConstant, constant_copy}
use Rattle.cx_asm_expressions.specs.declared.values.Value.{Value}
use Rattle.cx_asm_expressions.specs.declared.faults.FaultKind.{FaultKind}
use Rattle.cx_asm_expressions.specs.Symbols.{find_in}
use Rattle.cx_asm_pools.specs.Pools.{PlacedLiterals, literal_text}
use Rattle.cx_asm_pass1.specs.Given.{location_counter}
use Rattle.cx_asm_pass1.specs.Layout.{item_length}
use Rattle.cx_asm_pass1.specs.PassState.{PassState, role_in}
use Rattle.cx_asm_pass1.specs.Locations.{all_pools, final_state}
use Rattle.cx_asm_pass1.specs.declared.roles.Role.{Role}
use Rattle.cx_asm_pass1.specs.declared.roles.Role.TheVariants.{Instruction}
use Rattle.cx_asm_pass1.specs.declared.places.Places.{Places}
use Rattle.cx_source.specs.declared.source.Source.{Source}
use Rattle.cx_asm_operands.specs.Bases.{Bases}
use Rattle.cx_asm_operands.specs.Context.{Context, context}
use Rattle.cx_asm_operands.specs.Forms.{literal_in}
use Rattle.cx_asm_operands.specs.Checking.{then_check}
use Rattle.cx_asm_pass2.specs.Statements.{PlacedStatement}

-- the symbols, the literal pools and the control section
pub record Whole : Type 0 where
  pub find : List ℕ → Option Value
  pub pools : List PlacedLiterals
  pub control : Option (List ℕ)

abbrev pub whole : (List ℕ → Option Value) → List PlacedLiterals → Option (List ℕ) → Whole
whole find pools control = record { find = find; pools = pools; control = control }

abbrev pub whole_of_state : PassState → Whole
whole_of_state state = whole state.symbols (all_pools state) state.control

abbrev pub whole_of : Source → Whole
whole_of source = whole_of_state (final_state source)

-- ---- the location counter
-- `*` has the length of an instruction, and else 1
abbrev pub own_length : Role → ℕ
own_length (Instruction size) = size
own_length _ = 1

-- where the location counter is for a statement
abbrev pub counter_of : PlacedStatement → Option Value
counter_of s = location_counter s.place.section s.place.offset (own_length (role_in s.stmt))

-- ---- literals
-- the pool that a statement's literals are in
abbrev pub pool_of : Whole → PlacedStatement → PlacedLiterals
pool_of whole s = unwrap_or (slice_get whole.pools s.place.pool) []

-- The literal of a text stands for its place, with the length of one copy.
abbrev pub literal_place : Whole → PlacedStatement → List ℕ → Option Value
literal_place whole s text =
    let length = item_length (constant_in false text) in let literal = lookup (bytes_eq text) (pool_of whole s) in
    option_and_then (λ it. location_counter s.place.section it.offset length) literal

-- that of the statement's last operand, where it is a literal
abbrev pub literal_of : Whole → PlacedStatement → Option Value
literal_of whole s = option_and_then (literal_place whole s) (option_and_then literal_text (literal_in s.stmt.operand))

-- ---- what operands are read by, where these bases are in use
abbrev pub instruction_context : Whole → Bases → PlacedStatement → Context
instruction_context whole bases s = context whole.find (counter_of s) bases (literal_of whole s)

abbrev pub directive_context : Whole → Bases → PlacedStatement → Context
directive_context whole bases s = context whole.find (counter_of s) bases None

-- one copy of an item of a DS, or of a DC or a literal, where the location counter is at this place
abbrev pub item_made : Whole → Bool → Option Value → List ℕ → Result CopyOfConstant FaultKind
item_made whole is_ds at text = then_check (constant_copy whole.find at whole.control) (constant_in is_ds text)

-- what is known by the places of a first pass
abbrev pub whole_by : Places → Whole
whole_by places = whole (find_in places.symbols) places.pools (option_map (λ control. control.name) places.control)
