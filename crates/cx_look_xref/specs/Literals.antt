-- The literals of a source, and the statements that use them (GC33-4010, "Literals", "Literal Pool" and
-- "Cross-Reference").
use Rattle.std.specs.Prelude.{ℕ, Bool, false, ◌&&◌, ◌==◌, List, drop, map, take}
use Rattle.std.specs.List.{filter, list_any}
use Rattle.std.specs.Option.{option_map_or}
use Rattle.std.specs.Str.{bytes_eq}
use Rattle.cx_asm_pools.specs.Pools.{literal_size, literal_text}
use Rattle.cx_asm_pools.specs.declared.closed.Literal.{Literal}
use Rattle.cx_asm_pass1.specs.PassState.{parts_in, role_in}
use Rattle.cx_asm_pass1.specs.declared.roles.Role.{Role}
use Rattle.cx_asm_pass1.specs.declared.roles.Role.TheVariants.{Instruction}
use Rattle.cx_asm_pass2.specs.Statements.{PlacedStatement}
use Rattle.cx_look_xref.specs.References.{each_once}

-- One of an instruction's operands is the literal of a text.
abbrev pub has_literal : List ℕ → Role → List (List ℕ) → Bool
has_literal text (Instruction size) parts =
    list_any (λ part. option_map_or (bytes_eq text) (literal_text part) false) parts
has_literal text role parts = false

-- The statement uses the literal of a text in the pool of a number, from 0.
abbrev pub uses_literal : ℕ → List ℕ → PlacedStatement → Bool
uses_literal pool text s = (s.place.pool == pool) && has_literal text (role_in s.stmt) (parts_in s.stmt)

-- the lines of these statements
abbrev pub lines_with : List PlacedStatement → ℕ → List ℕ → List ℕ
lines_with statements pool text = each_once (map (λ s. s.line) (filter (uses_literal pool text) statements))

-- its bytes in the control section's text
abbrev pub literal_bytes : List ℕ → List ℕ → Literal → List ℕ
literal_bytes section text literal = take (literal_size text) (drop literal.offset section)
