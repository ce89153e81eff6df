-- What is known of a statement by those before it, the latest first (GC33-4010, "CSECT", "DSECT", "EQU", "LTORG" and
-- "Literal Pool"; the faults are this product's own).
use Rattle.std.specs.Prelude.{ℕ, Bool, true, false, ◌||◌, ◌==◌, if◌then◌else◌, Option, Some, None, option_and_then, option_map, Result, List, [], ◌∷◌, ◌++◌, length, is_none, is_some, map, unwrap_or, pos, replicate}
use Rattle.std.specs.Option.{option_map_or, option_or}
use Rattle.std.specs.Result.{result_err, result_ok}
use Rattle.cx_asm_operations.specs.Operations.{operation_named}
use Rattle.cx_source.specs.Marks.{parts}
use Rattle.cx_source.specs.declared.marks.Delimiter.TheVariants.{TopComma}
use Rattle.cx_source.specs.declared.source.Stmt.{Stmt}
use Rattle.cx_source.specs.declared.source.Item.{Item}
use Rattle.cx_asm_expressions.specs.Faults.{lower, lowest}
use Rattle.cx_asm_expressions.specs.Names.{symbol_name}
use Rattle.cx_asm_expressions.specs.Symbols.{Symbols, find_in, absolute}
use Rattle.cx_asm_expressions.specs.Weights.{stands_in}
use Rattle.cx_asm_expressions.specs.declared.faults.FaultKind.{FaultKind}
use Rattle.cx_asm_expressions.specs.declared.faults.FaultKind.TheVariants.{UnknownOperation, BadOperand}
use Rattle.cx_asm_expressions.specs.declared.values.Value.{Value}
use Rattle.cx_asm_pools.specs.Pools.{OpenLiterals, PlacedLiterals, cap, literal_constant_fault, closed_pool, pool_extent, with_parts}
use Rattle.cx_asm_pass1.specs.Roles.{role_of}
use Rattle.cx_asm_pass1.specs.Layout.{fault_beyond, extent_of}
use Rattle.cx_asm_pass1.specs.Given.{definitions, duplicate, value_given}
use Rattle.cx_asm_pass1.specs.declared.layout.Extent.{Extent}
use Rattle.cx_asm_pass1.specs.declared.place.Place.{Place}
use Rattle.cx_asm_pass1.specs.declared.place.LineFault.{LineFault}
use Rattle.cx_asm_pass1.specs.declared.roles.Role.{Role}
use Rattle.cx_asm_pass1.specs.declared.roles.Role.TheVariants.{Unknown, Instruction, Control, Dummy, Equate, Storage, Pool}

-- What is known of a statement by those before it.
pub record PassState : Type 0 where
  -- the section that it is in, and the control section
  pub section : Option (List ℕ)
  pub control : Option (List ℕ)
  -- the length of each section so far
  pub lengths : List ℕ → ℕ
  -- the value of each symbol so far
  pub symbols : List ℕ → Option Value
  -- the literals of the open pool, and the pools that are closed
  pub pool : OpenLiterals
  pub pools : List PlacedLiterals
  -- where each of them is
  pub places : List Place
  -- the first fault so far
  pub fault : Option LineFault

-- without a statement
abbrev pub state_at_start : PassState
state_at_start =
    record {
      section = None;
      control = None;
      lengths = λ name. 0;
      symbols = λ name. None;
      pool = [];
      pools = [];
      places = [];
      fault = None;
    }

-- ---- a statement
abbrev pub role_in : Stmt → Role
role_in stmt = role_of (operation_named stmt.operation)

abbrev pub name_in : Stmt → Option (List ℕ)
name_in stmt = symbol_name stmt.name

abbrev pub parts_in : Stmt → List (List ℕ)
parts_in stmt = parts TopComma stmt.operand

-- the length of a section so far; 0 where there is none
abbrev pub length_of_section : Option (List ℕ) → (List ℕ → ℕ) → ℕ
length_of_section section lengths = option_map_or lengths section 0

-- the next offset in the section
abbrev pub next_in : PassState → ℕ
next_in state = cap (length_of_section state.section state.lengths)

abbrev pub extent_in : Stmt → PassState → Extent
extent_in stmt state = extent_of (role_in stmt) (parts_in stmt) (pool_extent state.pool) (next_in state)

abbrev pub given_in : Stmt → PassState → Result (Option Value) FaultKind
given_in stmt state =
    value_given (role_in stmt) (name_in stmt) state.symbols state.section stmt.operand (extent_in stmt state)

-- what it defines; an absolute 0 stands for a value at fault
abbrev pub definitions_in : Stmt → PassState → Symbols
definitions_in stmt state =
    let value = unwrap_or (result_ok (given_in stmt state)) (Some (absolute (pos 0))) in
    definitions (role_in stmt) (name_in stmt) state.control state.symbols stmt.operand value

-- ---- what is wrong with it
abbrev pub operation_fault : Role → Option FaultKind
operation_fault Unknown = Some UnknownOperation
operation_fault _ = None

-- a name that must be one, and one that may be left out
abbrev pub bad_name : List ℕ → Option FaultKind
bad_name text = if is_some (symbol_name text) then None else Some BadOperand

abbrev pub bad_label : List ℕ → Option FaultKind
bad_label text = if length text == 0 then None else bad_name text

abbrev pub name_fault : Role → List ℕ → Option FaultKind
name_fault Control text = bad_name text
name_fault Dummy text = bad_name text
name_fault Equate text = bad_name text
name_fault (Instruction size) text = bad_label text
name_fault (Storage is_ds) text = bad_label text
name_fault Pool text = bad_label text
name_fault _ text = None

abbrev pub is_control : Option (List ℕ) → Option (List ℕ) → Bool
is_control section control = option_map_or (λ name. stands_in name control) section false

-- An instruction and LTORG outside the control section, DS and DC before the first section, and a second control
-- section
abbrev pub section_fault : Role → Option (List ℕ) → Option (List ℕ) → Option (List ℕ) → Option FaultKind
section_fault (Instruction size) name section control = if is_control section control then None else Some BadOperand
section_fault Pool name section control = if is_control section control then None else Some BadOperand
section_fault (Storage is_ds) name section control = if is_some section then None else Some BadOperand
section_fault Control name section control =
    if is_none name || is_none control || is_control name control then None else Some BadOperand
section_fault _ name section control = None

-- the literals of an instruction, among them that the pool would go beyond the bound
abbrev pub literal_fault : Role → ℕ → List (List ℕ) → OpenLiterals → Option FaultKind
literal_fault (Instruction size) user parts pool =
    lower (lowest (map literal_constant_fault parts))
    (option_and_then fault_beyond (pool_extent (with_parts user pool parts)))
literal_fault _ user parts pool = None

-- It defines a name again, whatever its value.
abbrev pub duplicate_in : Stmt → PassState → Option FaultKind
duplicate_in stmt state = duplicate state.symbols (definitions_in stmt state)

-- all except the literals
abbrev pub own_fault : Stmt → PassState → Option FaultKind
own_fault stmt state =
    lowest (operation_fault (role_in stmt) ∷ name_fault (role_in stmt) stmt.name
    ∷ section_fault (role_in stmt) (name_in stmt) state.section state.control ∷ (extent_in stmt state).fault
    ∷ result_err (given_in stmt state)
    ∷ duplicate_in stmt state ∷ [])

-- the lowest fault of the statement
abbrev pub statement_fault_in : Stmt → PassState → Option FaultKind
statement_fault_in stmt state =
    lower (own_fault stmt state) (literal_fault (role_in stmt) (length state.places) (parts_in stmt) state.pool)

abbrev pub line_fault : ℕ → FaultKind → LineFault
line_fault line kind = record { line = line; kind = kind }

-- The first fault stays; of several on its line it is the lowest.
abbrev pub first_fault_after : ℕ → Option FaultKind → Option LineFault → Option LineFault
first_fault_after line fault None = option_map (line_fault line) fault
first_fault_after line fault (Some first) =
    if line == first.line then option_map (line_fault first.line) (lower (Some first.kind) fault) else Some first

-- ---- what else is known of the statement after it
-- CSECT, START and DSECT begin or resume the section of their name.
abbrev pub named_section : Role → Option (List ℕ) → Option (List ℕ) → Option (List ℕ)
named_section Control (Some name) section = Some name
named_section Dummy (Some name) section = Some name
named_section _ name section = section

-- The first CSECT or START names the control section.
abbrev pub named_control : Role → Option (List ℕ) → Option (List ℕ) → Option (List ℕ)
named_control Control name None = name
named_control _ name control = control

-- It is astray: in a section where it isn't allowed, or a CSECT or START without a name.
abbrev pub is_astray : Role → Option (List ℕ) → Option (List ℕ) → Option (List ℕ) → Bool
is_astray Control None section control = true
is_astray role name section control = is_some (section_fault role name section control)

-- After what is astray the control section goes on; where there is none, one whose name is blank begins.
abbrev pub control_or_blank : Option (List ℕ) → Option (List ℕ)
control_or_blank control = option_or control (Some (replicate 8 64))

abbrev pub section_after : Role → Option (List ℕ) → Option (List ℕ) → Option (List ℕ) → Option (List ℕ)
section_after role name section control =
    if is_astray role name section control then control_or_blank control else named_section role name section

abbrev pub control_after : Role → Option (List ℕ) → Option (List ℕ) → Option (List ℕ) → Option (List ℕ)
control_after role name section control =
    if is_astray role name section control then control_or_blank control else named_control role name control

-- An instruction uses its literals, and LTORG closes the pool.
abbrev pub pool_after : Role → ℕ → List (List ℕ) → OpenLiterals → OpenLiterals
pool_after (Instruction size) user parts pool = with_parts user pool parts
pool_after Pool user parts pool = []
pool_after _ user parts pool = pool

abbrev pub pools_after : Role → ℕ → OpenLiterals → List PlacedLiterals → List PlacedLiterals
pools_after Pool offset pool pools = pools ++ closed_pool (cap offset) pool ∷ []
pools_after _ offset pool pools = pools

-- where it is: its section, offset, its items' offsets, and the number of its pool
abbrev pub place_in : Stmt → PassState → Place
place_in stmt state =
    record {
      section = state.section;
      offset = (extent_in stmt state).offset;
      items = (extent_in stmt state).items;
      pool = length state.pools;
    }

-- The statement lengthens its own section alone.
abbrev pub length_after : Option (List ℕ) → ℕ → (List ℕ → ℕ) → List ℕ → ℕ
length_after section end lengths name = if stands_in name section then end else lengths name

-- What is known after a statement of a line. A symbol has the value that the first statement gives it.
unfoldable pub next_state : ℕ → Stmt → PassState → PassState
next_state line stmt state =
    record {
      section = section_after (role_in stmt) (name_in stmt) state.section state.control;
      control = control_after (role_in stmt) (name_in stmt) state.section state.control;
      lengths = length_after state.section (extent_in stmt state).end state.lengths;
      symbols = λ name. option_or (state.symbols name) (find_in (definitions_in stmt state) name);
      pool = pool_after (role_in stmt) (length state.places) (parts_in stmt) state.pool;
      pools = pools_after (role_in stmt) (extent_in stmt state).offset state.pool state.pools;
      places = state.places ++ place_in stmt state ∷ [];
      fault = first_fault_after line (statement_fault_in stmt state) state.fault;
    }

-- a comment, and a line that continues a statement, add nothing
abbrev pub after_line : ℕ → Option Stmt → PassState → PassState
after_line line None state = state
after_line line (Some stmt) state = next_state line stmt state

-- what is known by lines, the latest first
abbrev pub state_after : List Item → PassState
state_after [] = state_at_start
state_after (item ∷ before) = after_line item.line item.stmt (state_after before)
