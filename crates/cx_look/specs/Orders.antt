-- ORDERS: which lines its block may have, and what they ask (own).
use Rattle.std.specs.Prelude.{ℕ, ◌&&◌, nat_le, nat_lt, not, Bool, true, false, count_by, if◌then◌else◌, Option, Some, None, is_some, List, [], ◌∷◌, ◌++◌, length, map, codes}
use Rattle.std.specs.Char.{to_ascii_uppercase}
use Rattle.std.specs.List.{flat_map}
use Rattle.std.specs.Option.{option_and_then, option_map, option_map_or, option_or}
use Rattle.std.specs.Str.{bytes_eq}
use Rattle.cx_ebcdic.specs.Names.{padded_name}
use Rattle.cx_region.specs.declared.replies.Event.TheVariants as event
use Rattle.cx_edf.specs.declared.answers.EdfEvent.{EdfEvent}
use Rattle.cx_edf.specs.declared.answers.EdfEvent.TheVariants as edf
use Rattle.cx_orders.specs.declared.states.KeyLine.{KeyLine}
use Rattle.cx_script_actions.specs.Actions.{is_blank_or_comment, line_of}
use Rattle.cx_script_actions.specs.Words.{after_first_blank, number_with_digits, word}
use Rattle.cx_script_actions.specs.declared.actions.Action.{Action}
use Rattle.cx_script_actions.specs.declared.actions.Action.TheVariants as action
use Rattle.cx_script_actions.specs.declared.actions.Line.{Line}
use Rattle.cx_script_actions.specs.declared.actions.Line.TheVariants as line
use Rattle.cx_script_actions.specs.declared.actions.NoHeading.{NoHeading}
use Rattle.cx_look.specs.Looks.{at_most, look_of}
use Rattle.cx_look.specs.declared.look.Look.{Look}
use Rattle.cx_look.specs.declared.look.Look.TheVariants as look
use Rattle.cx_look.specs.declared.orders.OrdersAsked.{OrdersAsked}
use Rattle.cx_look.specs.declared.orders.OrdersBlock.{OrdersBlock}
use Rattle.cx_look.specs.declared.orders.OrdersLine.{OrdersLine}
use Rattle.cx_look.specs.declared.orders.OrdersLine.TheVariants as says
use Rattle.cx_look.specs.declared.orders.Sight.{Sight}
use Rattle.cx_look.specs.declared.orders.Sight.TheVariants as sight

-- ---- what follows the word
-- whether these words are said, where something is
abbrev pub are_said : List ℕ → Option (List ℕ) → Option Bool
are_said words None = Some false
are_said words (Some text) = if bytes_eq text words then Some true else None

abbrev pub with_states : ℕ → List ℕ → Option (List ℕ) → Option (ℕ × Bool)
with_states n words rest = option_map (λ said. (n, said)) (are_said words rest)

-- the most states, 1 to 1,000,000, 10,000 where no number says so, and whether these words follow
abbrev pub states_and : List ℕ → Option (List ℕ) → Option (ℕ × Bool)
states_and words None = with_states 10000 words None
states_and words (Some text) =
    option_map_or (λ n. with_states n words (after_first_blank text))
    (option_and_then (at_most 1000000) (number_with_digits 1 7 (word text)))
    (with_states 10000 words (Some text))

abbrev pub orders_asked : Option (List ℕ) → Option OrdersAsked
orders_asked rest =
    option_map (λ asked. let it : OrdersAsked = record { most = asked.0; typed_ahead = asked.1 } in it)
    (states_and (codes "TYPED AHEAD") rest)

-- ---- a line of the block
-- a key that is to come: KEY, as a script of `cicsedf` has it
abbrev pub is_key : List ℕ → Bool
is_key text = bytes_eq (word text) (codes "KEY")

abbrev pub event_in : Line Action NoHeading → Option EdfEvent
event_in (line.Action (action.Event e)) = Some e
event_in _ = None

abbrev pub key_in : List ℕ → EdfEvent → Option KeyLine
key_in text (edf.Plain (event.Key name aid bytes)) =
    Some (record { name = name; aid = aid; bytes = bytes; line = text })
key_in text _ = None

abbrev pub key_line_of : List ℕ → Option KeyLine
key_line_of text = option_and_then (key_in text) (option_and_then event_in (line_of text))

-- what may be seen of an outcome: SCREEN, as a script of `cicsedf` has it, and looks at what is in the region
abbrev pub is_sight : Look → Bool
is_sight (look.Abend name) = false
is_sight (look.AbendStorage name) = false
is_sight (look.AbendFields name) = false
is_sight (look.Ahead name n) = false
is_sight (look.AheadAt name program line) = false
is_sight (look.AheadAfter name n) = false
is_sight (look.FieldsAfter name n) = false
is_sight (look.Faults source) = false
is_sight (look.Help word) = false
is_sight look.CoveredAll = false
is_sight (look.Covered program) = false
is_sight (look.CoveredLines program) = false
is_sight _ = true

abbrev pub screen_of : List ℕ → Option Sight
screen_of text =
    let name = option_and_then (padded_name 4) (after_first_blank text) in
    if bytes_eq (word text) (codes "SCREEN") then option_map (λ n. sight.Screen n) name else None

abbrev pub look_seen : Look → Option Sight
look_seen l = if is_sight l then Some (sight.Look l) else None

-- of which lower case is taken as upper case, and none has more than 4,096 bytes
abbrev pub sight_asked_for : List ℕ → Option Sight
sight_asked_for text =
    if nat_le (length text) 4096 then option_and_then look_seen (look_of (map to_ascii_uppercase text)) else None

abbrev pub sight_of : List ℕ → Option Sight
sight_of text = option_or (screen_of text) (sight_asked_for text)

-- What a line of the block says; None where it may not stand there.
unfoldable pub orders_line_of : List ℕ → Option OrdersLine
orders_line_of text =
    if is_blank_or_comment text then Some says.Blank
    else if is_key text then option_map (λ key. says.Key key) (key_line_of text)
    else option_map (λ s. says.Sight s) (sight_of text)

-- ---- the block
-- at most 256 keys, and at most 64 lines that say what is to be seen
abbrev pub block_has_room : List (List ℕ) → List ℕ → Bool
block_has_room lines text =
    if is_key text then nat_lt (count_by is_key lines) 256 else nat_lt (count_by (λ l. not (is_key l)) lines) 64

-- The lines of the block with one more, where it may have that line: empty lines and comments aren't kept.
unfoldable pub orders_with : List (List ℕ) → List ℕ → Option (List (List ℕ))
orders_with lines text =
    if is_blank_or_comment text then Some lines
    else if block_has_room lines text && is_some (orders_line_of text) then Some (lines ++ text ∷ []) else None

abbrev pub keys_in : Option OrdersLine → List KeyLine
keys_in (Some (says.Key key)) = key ∷ []
keys_in _ = []

abbrev pub sights_in : Option OrdersLine → List Sight
sights_in (Some (says.Sight s)) = s ∷ []
sights_in _ = []

-- What the block asks, by what its first line asks: the keys, and what is to be seen, in the order of its lines.
unfoldable pub orders_block : OrdersAsked → List (List ℕ) → OrdersBlock
orders_block asked lines =
    record {
      most = asked.most;
      typed_ahead = asked.typed_ahead;
      keys = flat_map (λ l. keys_in (orders_line_of l)) lines;
      sights = flat_map (λ l. sights_in (orders_line_of l)) lines;
    }
