-- The pieces of what is written.
use Rattle.std.specs.Prelude.{ℕ, Option, option_and_then, option_map, List, [], ◌∷◌, ◌++◌, codes}
use Rattle.std.specs.Fmt.{decimal}
use Rattle.std.specs.Option.{option_map_or, option_to_list}
use Rattle.cx_base.specs.Digits.{digits, hex_digits}
use Rattle.cx_base.specs.Texts.{shown_name}
use Rattle.cx_storage.specs.Storage.{Storage}
use Rattle.cx_region_state.specs.Replies.{turn_reply_name}
use Rattle.cx_region_state.specs.declared.replies.TurnReply.{TurnReply}
use Rattle.cx_script_actions.specs.Texts.{turn_reply_detail}
use Rattle.cx_look_lines.specs.Words.{Lines, look_line}
use Rattle.cx_look_symbols.specs.Places.{address_word}
use Rattle.cx_look_symbols.specs.Sources.{Sources, led_by, statement_at}
use Rattle.cx_look_symbols.specs.declared.places.Place.{Place}
use Rattle.cx_look_fields.specs.Addresses.{nearest_by}
use Rattle.cx_look_fields.specs.Fields.{LevelFields}
use Rattle.cx_look_fields.specs.Nearest.{near_word}
use Rattle.cx_look_ahead.specs.Watching.{shown_in}
use Rattle.cx_look_ahead.specs.declared.rows.Row.{Row}

abbrev pub turn_end_line : List ℕ → TurnReply → Lines
turn_end_line name reply =
    look_line (codes "AHEAD" ∷ shown_name name ∷ turn_reply_name reply ∷ option_to_list (turn_reply_detail reply))

-- the field that has the byte at an address
abbrev pub field_word : Option LevelFields → ℕ → Option (List ℕ)
field_word fields address = option_map near_word (option_and_then (nearest_by address) fields)

abbrev pub visit_word : Sources → Place → Option (List ℕ) → List ℕ
visit_word sources place code =
    address_word place ++ codes " " ++ option_map_or hex_digits code (codes "--")
    ++ led_by (codes " LINE ") (statement_at sources place.spot)

abbrev pub begun_line : Storage → Row → Lines
begun_line storage range =
    look_line (codes "WATCH" ∷ digits 16 6 range.at ∷ decimal range.length ∷ codes "IS" ∷ shown_in storage range ∷ [])

abbrev pub refused_line : Row → Lines
refused_line range =
    look_line (codes "WATCH" ∷ digits 16 6 range.at ∷ decimal range.length ∷ codes "REFUSED" ∷ codes "Full" ∷ [])
