-- The symbols that a source hasn't defined one by one: those of DFHREGS, of COPY DFHAID, and of the EXEC interface
-- block (own).
use Rattle.std.specs.Prelude.{ℕ, Bool, true, false, ◌||◌, ◌==◌, if◌then◌else◌, List, [], ◌∷◌, codes}
use Rattle.std.specs.List.{flat_map, list_any}
use Rattle.std.specs.Option.{option_map_or}
use Rattle.cx_source.specs.declared.source.Item.{Item}
use Rattle.cx_source.specs.declared.source.Source.{Source}
use Rattle.cx_asm_expressions.specs.Names.{symbol_name}
use Rattle.cx_asm_pass1.specs.PassState.{is_control, role_in}
use Rattle.cx_asm_pass1.specs.declared.roles.Role.{Role}
use Rattle.cx_asm_pass1.specs.declared.roles.Role.TheVariants.{Registers, Member}
use Rattle.cx_look_symbols.specs.declared.rows.Symbol.{Symbol}

-- DFHREGS and COPY define symbols of their own
abbrev pub gives_symbols : Role → Bool
gives_symbols Registers = true
gives_symbols Member = true
gives_symbols _ = false

abbrev pub line_given : Item → List ℕ
line_given item = if option_map_or (λ stmt. gives_symbols (role_in stmt)) item.stmt false then item.line ∷ [] else []

-- the lines of those
abbrev pub lines_given : Source → List ℕ
lines_given source = flat_map line_given source.items

-- a symbol of one of these lines, or a place in the EXEC interface block
abbrev pub is_symbol_given : List ℕ → Symbol → Bool
is_symbol_given lines symbol =
    list_any (λ line. line == symbol.line) lines || is_control symbol.value.section (symbol_name (codes "DFHEIBLK"))
