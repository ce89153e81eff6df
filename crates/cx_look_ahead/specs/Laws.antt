-- What a look ahead has to do with the turn that is then done; the lines of watched ranges.
use Rattle.std.specs.Prelude.{◌≡◌, ◌≢◌, ◌↔◌, ℕ, Some, option_and_then, IsTrue, List, [], length}
use Rattle.std.specs.Option.{option_map_or}
use Rattle.cx_program.specs.Levels.{all_levels}
use Rattle.std.specs.List.{list_any}
use Rattle.cx_storage.specs.Storage.{Storage, byte_at}
use Rattle.cx_region_state.specs.State.{TaskState}
use Rattle.cx_region_state.specs.declared.replies.TurnReply.{TurnReply}
use Rattle.cx_region.specs.State.{RegionState}
use Rattle.cx_region.specs.Tables.{task_of}
use Rattle.cx_region.specs.Turn.{TakesTurn}
use Rattle.cx_look_lines.specs.Words.{Lines}
use Rattle.cx_look_symbols.specs.Sources.{Sources}
use Rattle.cx_look_ahead.specs.Rows.{AreRows, has_byte}
use Rattle.cx_look_ahead.specs.Ahead.{AheadText, TurnText, fields_ahead}
use Rattle.cx_look_fields.specs.Addresses.{level_field_line, level_lines_at, nearest_by}
use Rattle.cx_look_ahead.specs.declared.rows.Row.{Row}
pub mod Arrivals
pub mod Watching
pub mod Ats
pub mod Afters

-- what is written is that of the region's next turn: its reply, its instructions, and what it changes
abbrev pub NextTurnIsShown : Type 0
NextTurnIsShown =
    (sources : Sources) (region new : RegionState) (name : List ℕ) (n : ℕ) (reply : TurnReply) (lines : Lines)
    → AheadText sources region name n lines → TakesTurn region name reply new
    → TurnText sources region name n reply new.shared.storage lines

-- a byte is in one of the rows exactly where it differs
abbrev pub RowsAreTheDifference : Type 0
RowsAreTheDifference = (before after : Storage) (rows : List Row) (a : ℕ) → AreRows before after 0 rows
    → IsTrue (list_any (has_byte a) rows) ↔ (byte_at before a ≢ byte_at after a)

-- there is one list of rows, and one text
abbrev pub RowsDecide : Type 0
RowsDecide =
    (before after : Storage) (one other : List Row) → AreRows before after 0 one → AreRows before after 0 other
    → one ≡ other

abbrev pub AheadDecides : Type 0
AheadDecides =
    (sources : Sources) (region : RegionState) (name : List ℕ) (n : ℕ) (one other : Lines)
    → AheadText sources region name n one → AheadText sources region name n other → one ≡ other

-- The field that a row names is the one of which WHERE writes a line, at the row's first byte, for the task's current
-- level, which has the highest number.
abbrev pub NamesAreOfWhere : Type 0
NamesAreOfWhere =
    (sources : Sources) (region : RegionState) (name : List ℕ) (task : TaskState) (address : ℕ)
    → task_of region name ≡ Some task
    → option_map_or (level_field_line name (length (all_levels task.levels)))
    (option_and_then (nearest_by address) (fields_ahead sources region name)) []
    ≡ level_lines_at region.shared.programs sources address name task (length (all_levels task.levels))
