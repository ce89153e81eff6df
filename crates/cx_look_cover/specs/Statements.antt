-- The instructions of a source's lines (own).
use Rattle.std.specs.Prelude.{ℕ, ◌==◌, Bool, true, false, if◌then◌else◌, Option, Some, None, List, [], ◌∷◌}
use Rattle.std.specs.List.{filter_map}
use Rattle.std.specs.Option.{option_map_or}
use Rattle.cx_source.specs.declared.source.Source.{Source}
use Rattle.cx_asm_pass1.specs.PassState.{role_in}
use Rattle.cx_asm_pass1.specs.Locations.{final_state}
use Rattle.cx_asm_pass1.specs.declared.roles.Role.{Role}
use Rattle.cx_asm_pass1.specs.declared.roles.Role.TheVariants.{Instruction}
use Rattle.cx_asm_pass2.specs.Statements.{PlacedStatement, statements_of}
use Rattle.cx_look_symbols.specs.Statements.{statement_place_of}
use Rattle.cx_look_symbols.specs.Placed.{placed_in}
use Rattle.cx_look_symbols.specs.declared.statements.StatementPlace.{StatementPlace}

abbrev pub is_instruction : Role → Bool
is_instruction (Instruction size) = true
is_instruction _ = false

-- where an instruction of the control section is; none of another statement
abbrev pub instruction_place_of : Option (List ℕ) → PlacedStatement → Option StatementPlace
instruction_place_of control s = if is_instruction (role_in s.stmt) then statement_place_of control s else None

-- Of those that one line makes (an EXEC, a macro) the first: each that isn't on the line of the one in front of it.
abbrev pub is_on : Option ℕ → StatementPlace → Bool
is_on line place = option_map_or (λ n. n == place.line) line false

abbrev pub first_on_lines : Option ℕ → List StatementPlace → List StatementPlace
first_on_lines line [] = []
first_on_lines line (place ∷ places) =
    if is_on line place then first_on_lines line places else place ∷ first_on_lines (Some place.line) places

-- those of a source in its order
abbrev pub instructions_in : Source → List StatementPlace
instructions_in source =
    first_on_lines None (filter_map (instruction_place_of (final_state source).control) (statements_of source))

-- those of lines; none where these aren't a source without a fault
unfoldable pub instruction_places : List (List ℕ) → List StatementPlace
instruction_places lines = option_map_or instructions_in (placed_in lines) []
