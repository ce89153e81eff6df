-- Which names the statements of a source use (GC33-4010, "Cross-Reference"; that the name is found in the operand's
-- text is own).
use Rattle.std.specs.Prelude.{ℕ, Bool, ◌&&◌, ◌==◌, if◌then◌else◌, Option, Some, None, option_and_then, List, [], ◌∷◌, ◌++◌, drop, fold, map, slice_get, take}
use Rattle.std.specs.BTreeSet.{insert_key}
use Rattle.std.specs.List.{filter, flat_map, prefix_len}
use Rattle.std.specs.Option.{option_map_or, option_to_list}
use Rattle.std.specs.Ordering.{nat_cmp}
use Rattle.cx_source.specs.Lines.{is_symbol_name_character}
use Rattle.cx_source.specs.Marks.{first_mark, outside_apostrophes}
use Rattle.cx_source.specs.declared.marks.Delimiter.TheVariants.{Parenthesis}
use Rattle.cx_source.specs.declared.source.Source.{Source}
use Rattle.cx_source.specs.declared.source.Stmt.{Stmt}
use Rattle.cx_asm_expressions.specs.Names.{is_same, symbol_name}
use Rattle.cx_code.specs.declared.table.Op.{Op}
use Rattle.cx_code.specs.declared.table.Format.{Format}
use Rattle.cx_code.specs.declared.table.Format.TheVariants as format
use Rattle.cx_code.specs.Table.{format_of, stores}
use Rattle.cx_asm_operations.specs.Operations.{operation_named}
use Rattle.cx_asm_operations.specs.declared.operations.Operation.{Operation}
use Rattle.cx_asm_operations.specs.declared.operations.Operation.TheVariants as operation
use Rattle.cx_asm_operations.specs.declared.operations.Directive.TheVariants as directive
use Rattle.cx_asm_pools.specs.Pools.{literal_text}
use Rattle.cx_asm_pass1.specs.PassState.{parts_in}
use Rattle.cx_look_xref.specs.declared.references.Reference.{Reference}

-- ---- a text
-- The name that characters are, by the character that ends them: none before an apostrophe, as in X'1F' and L'NAME.
abbrev pub name_ended : List ℕ → ℕ → List (List ℕ)
name_ended run next = if next == 39 then [] else option_to_list (symbol_name run)

-- The names in a text, of whose characters those lie outside apostrophes: the longest runs of letters and digits there.
-- `run` is what there is of one already.
abbrev pub names_from : List ℕ → List ℕ → List Bool → List (List ℕ)
names_from run (c ∷ after) (lies_outside ∷ more) =
    if lies_outside && is_symbol_name_character c then names_from (run ++ c ∷ []) after more
    else name_ended run c ++ names_from [] after more
names_from run after more = option_to_list (symbol_name run)

abbrev pub names_in : List ℕ → List (List ℕ)
names_in text = names_from [] text (outside_apostrophes text)

-- ---- an operand
-- A constant begins with its duplication factor, its type and its length modifier, which are no name.
abbrev pub names_of_constant : List ℕ → List (List ℕ)
names_of_constant text = names_in (drop (prefix_len is_symbol_name_character text) text)

-- of an operand that may be a literal
abbrev pub names_of_part : List ℕ → List (List ℕ)
names_of_part part = option_map_or names_of_constant (literal_text part) (names_in part)

-- The names that the operands of an operation use. Those of CSECT, START, DSECT, LTORG, DFHREGS and COPY, and of what
-- changes only the listing, use none.
abbrev pub names_used : Option Operation → List (List ℕ) → List (List ℕ)
names_used (Some (operation.Directive directive.Dc)) parts = flat_map names_of_constant parts
names_used (Some (operation.Directive directive.Ds)) parts = flat_map names_of_constant parts
names_used (Some (operation.Directive directive.Equ)) parts = flat_map names_of_part parts
names_used (Some (operation.Directive directive.Using)) parts = flat_map names_of_part parts
names_used (Some (operation.Directive directive.Drop)) parts = flat_map names_of_part parts
names_used (Some (operation.Directive directive.End)) parts = flat_map names_of_part parts
names_used (Some (operation.Directive other)) parts = []
names_used operation parts = flat_map names_of_part parts

-- ---- the operand into which an instruction stores, counted from 0
-- which operand of a format lies in storage; of two the first
abbrev pub storage_operand : Format → ℕ
storage_operand format.Rx = 1
storage_operand format.Rs = 2
storage_operand _ = 0

abbrev pub stored_operand : Op → Option ℕ
stored_operand op = if stores op then Some (storage_operand (format_of op)) else None

abbrev pub part_stored : Option Operation → Option ℕ
part_stored (Some (operation.Machine op)) = stored_operand op
part_stored _ = None

-- the names that it has in front of its parentheses
abbrev pub names_stored : Option Operation → List (List ℕ) → List (List ℕ)
names_stored operation parts =
    option_map_or (λ part. names_in (take (first_mark Parenthesis part) part))
    (option_and_then (slice_get parts) (part_stored operation)) []

-- ---- a source
abbrev pub reference : ℕ → List ℕ → Reference
reference line name = record { name = name; line = line }

-- `names` are those of an operation with its operands.
abbrev pub references_on : (Option Operation → List (List ℕ) → List (List ℕ)) → ℕ → Option Stmt → List Reference
references_on names line None = []
references_on names line (Some stmt) = map (reference line) (names (operation_named stmt.operation) (parts_in stmt))

-- The names that are used, each with the line of its statement: of a statement made of an EXEC with that one's line.
abbrev pub references_of : Source → List Reference
references_of source = flat_map (λ item. references_on names_used item.line item.stmt) source.items

-- and those into which an instruction stores
abbrev pub stores_of : Source → List Reference
stores_of source = flat_map (λ item. references_on names_stored item.line item.stmt) source.items

-- the numbers of lines, ascending, each once
abbrev pub each_once : List ℕ → List ℕ
each_once lines = fold (insert_key nat_cmp) [] lines

-- the lines that use a name
abbrev pub lines_using : List Reference → List ℕ → List ℕ
lines_using references name = each_once (map (λ r. r.line) (filter (λ r. is_same name r.name) references))
