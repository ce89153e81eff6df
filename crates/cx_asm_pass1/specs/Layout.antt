-- Where a statement is in its section, and what it takes there (GC33-4010, "Location Counter Reference", "DC -- Define
-- Constant", "DS -- Define Storage" and "Literal Pool").
use Rattle.std.specs.Prelude.{ℕ, ◌+◌, ◌-◌, ◌*◌, ◌/◌, nat_le, if◌then◌else◌, Option, Some, None, Result, List, [], map, slice_get, unwrap_or, fold, scan}
use Rattle.std.specs.Option.{option_map_or}
use Rattle.std.specs.Result.{result_err, result_ok}
use Rattle.cx_asm_expressions.specs.Digits.{bound}
use Rattle.cx_asm_expressions.specs.Faults.{lower, lowest}
use Rattle.cx_asm_expressions.specs.Items.{Constant, constant_in, alignment_of, length_of}
use Rattle.cx_asm_expressions.specs.declared.faults.FaultKind.{FaultKind}
use Rattle.cx_asm_expressions.specs.declared.faults.FaultKind.TheVariants.{ValueOutOfRange}
use Rattle.cx_asm_pools.specs.Pools.{cap, constant_size}
use Rattle.cx_asm_pass1.specs.declared.layout.Extent.{Extent}
use Rattle.cx_asm_pass1.specs.declared.roles.Role.{Role}
use Rattle.cx_asm_pass1.specs.declared.roles.Role.TheVariants.{Instruction, Storage, Pool}

-- the next offset on a boundary
abbrev pub align : ℕ → ℕ → ℕ
align boundary at = (at + (boundary - 1)) / boundary * boundary

-- an offset beyond the bound of all numbers is out of range
abbrev pub fault_beyond : ℕ → Option FaultKind
fault_beyond at = if nat_le at bound then None else Some ValueOutOfRange

-- an item of a DS or a DC: a constant, or what is wrong with it
abbrev pub StorageItem : Type 0
StorageItem = Result Constant FaultKind

-- An item begins on its boundary, and takes what all its copies have. A faulty one takes nothing.
abbrev pub item_start : ℕ → StorageItem → ℕ
item_start at read = option_map_or (λ item. align (alignment_of item) (cap at)) (result_ok read) at

abbrev pub item_end : ℕ → StorageItem → ℕ
item_end at read = item_start at read + cap (constant_size read)

-- the length of one copy
abbrev pub item_length : StorageItem → ℕ
item_length read = option_map_or length_of (result_ok read) 1

abbrev pub extent_at : ℕ → List ℕ → ℕ → ℕ → Option FaultKind → Extent
extent_at offset items end length fault =
    record { offset = offset; items = items; end = end; length = length; fault = fault }

-- `size` bytes on a boundary, with a length attribute
abbrev pub bytes_at : ℕ → ℕ → ℕ → ℕ → Extent
bytes_at boundary size length at =
    extent_at (align boundary at) [] (align boundary at + size) length (fault_beyond (align boundary at + size))

-- items, one after the other; the first's place and length are theirs
abbrev pub items_at : List StorageItem → ℕ → Extent
items_at items at =
    let offsets = scan item_end item_start at items in let end = fold item_end at items in
    let length = option_map_or item_length (slice_get items 0) 1 in
    extent_at (unwrap_or (slice_get offsets 0) at) offsets end length
    (lower (lowest (map result_err items)) (fault_beyond end))

-- What a statement takes from the next offset on, by what its operation does, the parts of its operand, and how many
-- bytes the open pool has: an instruction, items, or a literal pool that has literals; every other statement takes
-- nothing.
unfoldable pub extent_of : Role → List (List ℕ) → Option ℕ → ℕ → Extent
extent_of (Instruction size) parts extent at = bytes_at 2 (cap size) size at
extent_of (Storage is_ds) parts extent at = items_at (map (constant_in is_ds) parts) at
extent_of Pool parts (Some size) at = bytes_at 8 size 1 at
extent_of _ parts extent at = extent_at at [] at 1 None
