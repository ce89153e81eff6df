-- What is in a section doesn't overlap (GC33-4010, "Location Counter Reference", "DC -- Define Constant", "Literal
-- Pool").
use Rattle.std.specs.Prelude.{◌≡◌, ◌≤◌, ℕ, ◌+◌, ◌%◌, true, Option, Some, None, Ok, Err, List, [], ◌∷◌, map}
use Rattle.std.specs.List.{AllByRecursion}
use Rattle.cx_source.specs.declared.source.Item.{Item}
use Rattle.cx_source.specs.declared.source.Stmt.{Stmt}
use Rattle.cx_asm_expressions.specs.Items.{alignment_of, constant_in}
use Rattle.cx_asm_pools.specs.Pools.{OpenLiterals, cap, constant_size, closed_pool}
use Rattle.cx_asm_pools.specs.Laws.Literals.{StandApart}
use Rattle.cx_asm_pass1.specs.Layout.{StorageItem}
use Rattle.cx_asm_pass1.specs.PassState.{PassState, is_control, state_after, extent_in, length_of_section}
use Rattle.cx_asm_pass1.specs.Locations.{last_pool_extent}
use Rattle.cx_asm_pass1.specs.declared.layout.Extent.{Extent}
use Rattle.cx_asm_pass1.specs.declared.roles.Role.{Role}
use Rattle.cx_asm_pass1.specs.declared.roles.Role.TheVariants.{Instruction, Storage, Pool}

-- the length so far of the section that a statement is in, and of the control section
abbrev pub section_length : PassState → ℕ
section_length state = length_of_section state.section state.lengths

abbrev pub control_length : PassState → ℕ
control_length state = length_of_section state.control state.lengths

-- ---- one statement
-- the boundary of an item; a faulty one has none
abbrev pub boundary_of : StorageItem → ℕ
boundary_of (Ok item) = alignment_of item
boundary_of (Err fault) = 1

-- Items from an offset to an end: each begins at or past the end of the one before it, on its boundary.
abbrev pub ItemsStand : ℕ → List StorageItem → List ℕ → ℕ → Type 0
ItemsStand from [] [] end = from ≡ end
ItemsStand from [] (at ∷ offsets) end = ⊥
ItemsStand from (item ∷ items) [] end = ⊥
ItemsStand from (item ∷ items) (at ∷ offsets) end =
    (from ≤ at) × (at % boundary_of item ≡ 0) × ItemsStand (at + constant_size item) items offsets end

-- What a statement has lies from the offset before it to its end: an instruction on a boundary of two; the items of a
-- DS or DC; at LTORG the literals of the open pool. All else has nothing.
abbrev pub Stands : Role → List (List ℕ) → OpenLiterals → ℕ → Extent → Type 0
Stands (Instruction size) parts pool from extent =
    (from ≤ extent.offset) × (extent.offset % 2 ≡ 0) × (extent.end ≡ extent.offset + size)
Stands (Storage is_ds) parts pool from extent = ItemsStand from (map (constant_in is_ds) parts) extent.items extent.end
Stands Pool parts pool from extent =
    (from ≤ extent.offset) × StandApart extent.offset (closed_pool (cap extent.offset) pool) extent.end
Stands _ parts pool from extent = (extent.offset ≡ from) × (extent.end ≡ from)

-- ---- all statements
-- what a statement takes of its section
pub record Stretch : Type 0 where
  pub section : Option (List ℕ)
  pub offset : ℕ
  pub end : ℕ

abbrev pub stretch_of : Stmt → PassState → Stretch
stretch_of stmt state =
    record { section = state.section; offset = (extent_in stmt state).offset; end = (extent_in stmt state).end }

-- those of the statements of lines, the latest first
abbrev pub stretch_before : Option Stmt → PassState → List Stretch → List Stretch
stretch_before None state stretches = stretches
stretch_before (Some stmt) state stretches = stretch_of stmt state ∷ stretches

abbrev pub stretches_after : List Item → List Stretch
stretches_after [] = []
stretches_after (item ∷ before) = stretch_before item.stmt (state_after before) (stretches_after before)

-- in one section a later one begins at or past the end of an earlier one
abbrev pub ComesAfter : Stretch → Stretch → Type 0
ComesAfter later earlier =
    (name : List ℕ) → later.section ≡ Some name → earlier.section ≡ Some name → earlier.end ≤ later.offset

abbrev pub AreApart : List Stretch → Type 0
AreApart [] = Unit {0}
AreApart (stretch ∷ before) =
    (stretch.offset ≤ stretch.end) × AllByRecursion (ComesAfter stretch) before × AreApart before

-- every one of the control section ends inside it
abbrev pub EndWithin : PassState → List Stretch → Type 0
EndWithin state stretches =
    AllByRecursion
    (λ stretch. is_control stretch.section state.control ≡ true → stretch.end ≤ (last_pool_extent state).end)
    stretches

-- The last pool lies from the control section's end so far to its end.
pub record ClosesApart (state : PassState) : Type 0 where
  pub begins : control_length state ≤ (last_pool_extent state).offset
  pub literals : StandApart (last_pool_extent state).offset
      (closed_pool (cap (last_pool_extent state).offset) state.pool) (last_pool_extent state).end
