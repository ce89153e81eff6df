-- The listing (GC33-4010, "Assembler Listing"; the columns are own).
use Rattle.std.specs.Prelude.{ℕ, ◌+◌, ◌-◌, if◌then◌else◌, Option, Some, None, List, [], length, slice_get, take, drop}
use Rattle.std.specs.Option.{option_map_or}
use Rattle.cx_asm_pools.specs.Pools.{cap, literal_size}
use Rattle.cx_asm_pass1.specs.PassState.{is_control, role_in}
use Rattle.cx_asm_pass1.specs.declared.roles.Role.{Role}
use Rattle.cx_asm_pass1.specs.declared.roles.Role.TheVariants.{Instruction, Storage}
use Rattle.cx_asm_image.specs.Listing.{listing_line}
use Rattle.cx_asm_pass2.specs.Statements.{PlacedItem, PlacedStatement, placed_items, stated_in}
use Rattle.cx_asm_pass2.specs.Whole.{Whole}

-- An instruction, a DS and a DC are listed with their offset.
abbrev pub offset_shown : ℕ → Role → Option ℕ
offset_shown at (Instruction size) = Some at
offset_shown at (Storage is_ds) = Some at
offset_shown at role = None

-- the offset after the last item of a DC
abbrev pub end_of_items : ℕ → List (List ℕ × ℕ) → ℕ
end_of_items at items =
    option_map_or (λ item. cap item.1 + cap (literal_size item.0)) (slice_get items (length items - 1)) at

-- how many bytes an instruction or a DC has, with the gaps between items; other statements have none
abbrev pub object_length : PlacedStatement → Role → ℕ
object_length s (Instruction size) = size
object_length s (Storage is_ds) = if is_ds then 0 else end_of_items s.place.offset (placed_items s) - s.place.offset
object_length s role = 0

-- Those in the control section are listed with their bytes, and the gaps between items as zeros.
abbrev pub object_of : Whole → List ℕ → PlacedStatement → List ℕ
object_of whole text s =
    if is_control s.place.section whole.control then take (object_length s (role_in s.stmt)) (drop s.place.offset text)
    else []

-- the line of a line with this statement, if it has one
abbrev pub line_with : Whole → List ℕ → ℕ → List ℕ → Option PlacedStatement → List ℕ
line_with whole text number written None = listing_line None [] number written
line_with whole text number written (Some s) =
    listing_line (offset_shown s.place.offset (role_in s.stmt)) (object_of whole text s) number written

unfoldable pub item_listing : Whole → List ℕ → PlacedItem → List ℕ
item_listing whole text placed = line_with whole text placed.item.line placed.item.text (stated_in placed)
