-- AHEAD: what a terminal's next turn will do (own).
use Rattle.std.specs.Prelude.{◌≡◌, ℕ, zero, suc, min, Option, None, option_and_then, option_map, List, [], ◌∷◌, ◌++◌, codes}
use Rattle.std.specs.Fmt.{decimal}
use Rattle.std.specs.List.{flat_map}
use Rattle.std.specs.Option.{option_map_or, option_to_list}
use Rattle.cx_base.specs.Digits.{digits}
use Rattle.cx_base.specs.Texts.{shown_name}
use Rattle.cx_storage.specs.Address.{address_after}
use Rattle.cx_storage.specs.Storage.{Storage, byte_at}
use Rattle.cx_region_state.specs.Replies.{turn_reply_name}
use Rattle.cx_region_state.specs.declared.replies.TurnReply.{TurnReply}
use Rattle.cx_region.specs.State.{RegionState}
use Rattle.cx_region.specs.Turn.{TakesTurn}
use Rattle.cx_script_actions.specs.Texts.{turn_reply_detail}
use Rattle.cx_look_lines.specs.Words.{Lines, look_line}
use Rattle.cx_look_symbols.specs.Sources.{Sources, led_by, source_lines}
use Rattle.cx_look_fields.specs.Fields.{LevelFields, fields_at}
use Rattle.cx_look_fields.specs.FieldTexts.{standing_at}
use Rattle.cx_look_fields.specs.Addresses.{nearest_by}
use Rattle.cx_look_fields.specs.Nearest.{near_word}
use Rattle.cx_look_turn.specs.declared.traces.Trace.{Trace}
use Rattle.cx_look_ahead.specs.Instructions.{trace_lines}
use Rattle.cx_look_turn.specs.NextTurn.{IsAhead}
use Rattle.cx_look_ahead.specs.Rows.{AreRows}
use Rattle.cx_look_ahead.specs.declared.rows.Row.{Row}

-- the first k bytes from an address on; hyphens for one that isn't there
abbrev pub bytes_word : Storage → ℕ → ℕ → List ℕ
bytes_word s at zero = []
bytes_word s at (suc k) = bytes_word s at k ++ option_map_or (digits 16 2) (byte_at s (address_after at k)) (codes "--")

-- what fields are found by: those of the current level of the terminal's task, in front of the turn
abbrev pub fields_ahead : Sources → RegionState → List ℕ → Option LevelFields
fields_ahead sources region name =
    option_and_then (λ standing. fields_at (source_lines sources standing.program) standing)
    (standing_at region name None)

-- a row of bytes that the turn changes, of which the first 64 are shown, before the turn and after it, and the field
-- that has its first byte
unfoldable pub changed_row_line : Option LevelFields → Storage → Storage → Row → Lines
changed_row_line fields before after row =
    let shown = min row.length 64 in
    let field = option_map near_word (option_and_then (nearest_by row.at) fields) in
    let changed = bytes_word after row.at shown ++ led_by (codes " FIELD ") field in
    look_line (codes "CHANGES" ∷ digits 16 6 row.at ∷ decimal row.length ∷ codes "FROM" ∷ bytes_word before row.at shown
    ∷ codes "TO" ∷ changed ∷ [])

-- What is written for a turn of a region of that reply to that storage, with its last n instructions: how it ends, in
-- the words that are written for the turn, the instructions, and what it changes.
pub record TurnText (sources : Sources) (region : RegionState) (name : List ℕ) (n : ℕ) (reply : TurnReply)
    (after : Storage) (lines : Lines) : Type 0 where
  pub trace : Option Trace
  pub ahead : IsAhead region name n trace
  pub rows : List Row
  pub differ : AreRows region.shared.storage after 0 rows
  pub are : lines
      ≡ look_line (codes "AHEAD" ∷ shown_name name ∷ turn_reply_name reply ∷ option_to_list (turn_reply_detail reply))
      ++ trace_lines sources region.shared.programs trace
      ++ flat_map (changed_row_line (fields_ahead sources region name) region.shared.storage after) rows

-- what is written for the turn that the region would do next
pub record AheadText (sources : Sources) (region : RegionState) (name : List ℕ) (n : ℕ) (lines : Lines) : Type 0 where
  pub reply : TurnReply
  pub after : RegionState
  pub turns : TakesTurn region name reply after
  pub is : TurnText sources region name n reply after.shared.storage lines
