-- What a translated source gets beside its sections (this product's own; the statements are those of GC33-4010).
use Rattle.std.specs.Prelude.{option_and_then, ℕ, ◌+◌, Bool, false, true, ◌&&◌, ◌||◌, if◌then◌else◌, List, [], ◌∷◌, ◌++◌, Option, is_none, slice_get, take, drop, map, codes, decimal}
use Rattle.std.specs.Option.{option_map_or}
use Rattle.std.specs.List.{position}
use Rattle.std.specs.Str.{bytes_eq}
use Rattle.cx_base.specs.declared.eib.EibPiece.{EibPiece}
use Rattle.cx_base.specs.declared.eistg.EistgField.TheVariants.{Eipl, Eitp, Eicap}
use Rattle.cx_base.specs.Eib.{eib_field, eib_pieces}
use Rattle.cx_base.specs.Eistg.{eistg_field}
use Rattle.cx_source.specs.declared.source.Item.{Item}
use Rattle.cx_source.specs.declared.source.Stmt.{Stmt}
use Rattle.cx_source.specs.Statements.{is_continued}
use Rattle.cx_translate.specs.Expansion.{made_item, stmt}

-- the statement that begins on a line is of this operation, or of this name
abbrev pub has_operation : List ℕ → Option Stmt → Bool
has_operation operation statement = option_map_or (λ s. bytes_eq s.operation operation) statement false

abbrev pub has_name : List ℕ → Option Stmt → Bool
has_name name statement = option_map_or (λ s. bytes_eq s.name name) statement false

unfoldable pub begins_exec : Item → Bool
begins_exec item = has_operation (codes "EXEC") item.stmt

unfoldable pub begins_section : Item → Bool
begins_section item = has_operation (codes "CSECT") item.stmt || has_operation (codes "START") item.stmt

unfoldable pub begins_storage : Item → Bool
begins_storage item = has_name (codes "DFHEISTG") item.stmt && has_operation (codes "DSECT") item.stmt

unfoldable pub is_end : Item → Bool
is_end item = has_operation (codes "END") item.stmt

-- the head of the program's storage
abbrev pub storage_fields : List Stmt
storage_fields =
    stmt (eistg_field Eipl).name (codes "DS") (codes "18F") ∷ stmt (eistg_field Eitp).name (codes "DS") (codes "F")
    ∷ stmt (eistg_field Eicap).name (codes "DS") (codes "A") ∷ []

-- the bases of the control section, of the program's storage and of the EIB
abbrev pub bases : List ℕ → List Stmt
bases name =
    stmt [] (codes "USING") (name ++ codes ",3") ∷ stmt [] (codes "USING") (codes "DFHEISTG,13")
    ∷ stmt [] (codes "USING") (codes "DFHEIBLK,11") ∷ []

-- a field of the EIB, or a gap
abbrev pub field : EibPiece → Stmt
field piece =
    stmt (option_map_or (λ f. (eib_field f).name) piece.field []) (codes "DS") (codes "XL" ++ decimal piece.len)

-- made lines with one number
abbrev pub lines : ℕ → List Stmt → List Item
lines line made = map (made_item line) made

-- how many of the next lines continue a statement that is or isn't continued
abbrev pub continuation_count : Bool → List Item → ℕ
continuation_count continues [] = 0
continuation_count continues (item ∷ rest) =
    if continues && is_none item.stmt then 1 + continuation_count (is_continued true item.text) rest else 0

-- the place after the statement that begins at a place, and after its continuation lines
unfoldable pub place_after : List Item → ℕ → ℕ
place_after items place = place + 1
    + continuation_count (option_map_or (λ item. is_continued false item.text) (slice_get items place) false)
    (drop (place + 1) items)

-- items put in at a place
abbrev pub insert_items : ℕ → List Item → List Item → List Item
insert_items place made items = take place items ++ made ++ drop place items

-- made statements before, and after, the statement that begins at a place, with the number of its line
abbrev pub numbered_items : List Stmt → ℕ → List Item → List Item
numbered_items made place items = lines (option_map_or (λ item. item.line) (slice_get items place) 0) made

abbrev pub put_before : List Stmt → ℕ → List Item → List Item
put_before made place items = insert_items place (numbered_items made place items) items

abbrev pub put_after : List Stmt → ℕ → List Item → List Item
put_after made place items = insert_items (place_after items place) (numbered_items made place items) items

-- a change at the first line that passes a test; without one a given list
abbrev pub at_first : (Item → Bool) → (ℕ → List Item → List Item) → List Item → List Item → List Item
at_first test change items otherwise = option_map_or (λ place. change place items) (position test items) otherwise

-- The fields are placed after the first DFHEISTG DSECT; without one it is put with them before the control section,
-- where there is one.
unfoldable pub with_storage : List Item → List Item
with_storage items =
    at_first begins_storage (put_after storage_fields) items
    (at_first begins_section (put_before (stmt (codes "DFHEISTG") (codes "DSECT") [] ∷ storage_fields)) items items)

-- The bases are placed after the control section's first CSECT or START, and name it.
abbrev pub name_at : ℕ → List Item → List ℕ
name_at place items = option_map_or (λ s. s.name) (option_and_then (λ item. item.stmt) (slice_get items place)) []

unfoldable pub with_bases : List Item → List Item
with_bases items = at_first begins_section (λ place all. put_after (bases (name_at place all)) place all) items items

-- The EIB is placed before the first END.
unfoldable pub with_eib : List Item → List Item
with_eib items =
    at_first is_end (put_before (stmt (codes "DFHEIBLK") (codes "DSECT") [] ∷ map field eib_pieces)) items items
