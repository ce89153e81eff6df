-- CHOICES: which lines its block may have, and what they ask (own).
use Rattle.std.specs.Prelude.{ℕ, ◌==◌, ◌&&◌, nat_le, not, Bool, if◌then◌else◌, Option, Some, None, is_some, List, [], ◌∷◌, ◌++◌, length, map, codes}
use Rattle.std.specs.List.{filter_map, flat_map, list_all}
use Rattle.std.specs.Option.{option_and_then, option_map}
use Rattle.cx_orders.specs.declared.states.KeyLine.{KeyLine}
use Rattle.cx_script_actions.specs.Actions.{is_blank_or_comment}
use Rattle.cx_script_actions.specs.Words.{after_first_blank, number_with_digits, word}
use Rattle.cx_look.specs.Looks.{at_most}
use Rattle.cx_look.specs.Orders.{block_has_room, is_key, key_line_of, orders_line_of, sight_of, sights_in, states_and}
use Rattle.cx_look.specs.Sets.{texts_meant}
use Rattle.cx_look.specs.declared.choices.ChoicesAsked.{ChoicesAsked}
use Rattle.cx_look.specs.declared.choices.ChoicesBlock.{ChoicesBlock}

-- ---- what follows the word
-- the most keys of a list, and the most states, after which ONE NUMBER may follow
abbrev pub choices_with_keys : ℕ → Option (List ℕ) → Option ChoicesAsked
choices_with_keys keys rest =
    option_map
    (λ asked. let it : ChoicesAsked = record { keys = keys; most = asked.0; one_number = asked.1 } in it)
    (states_and (codes "ONE NUMBER") rest)

-- a list has 1 to 64 keys
abbrev pub choices_asked : Option (List ℕ) → Option ChoicesAsked
choices_asked None = None
choices_asked (Some text) =
    option_and_then (λ keys. choices_with_keys keys (after_first_blank text))
    (option_and_then (at_most 64) (number_with_digits 1 2 (word text)))

-- ---- a line of the block
-- the lines that a KEY line stands for: KEY, and each text that what follows it stands for
abbrev pub lines_after_key : Option (List ℕ) → List (List ℕ)
lines_after_key None = []
lines_after_key (Some rest) = map (λ text. codes "KEY " ++ text) (texts_meant rest)

unfoldable pub lines_meant : List ℕ → List (List ℕ)
lines_meant text = if is_key text then lines_after_key (after_first_blank text) else []

-- the key that such a line asks; none has more than 4,096 bytes
abbrev pub choice_of : List ℕ → Option KeyLine
choice_of line = if nat_le (length line) 4096 then key_line_of line else None

-- each of them must ask for a key, and there must be one
unfoldable pub asks_keys : List ℕ → Bool
asks_keys text =
    not (length (lines_meant text) == 0) && list_all (λ line. is_some (choice_of line)) (lines_meant text)

-- ---- the block
-- at most 256 KEY lines and 64 others, and the KEY lines stand for at most 10,000 lines
abbrev pub choices_have_room : List (List ℕ) → List ℕ → Bool
choices_have_room lines text =
    block_has_room lines text && nat_le (length (flat_map lines_meant (lines ++ text ∷ []))) 10000

-- The lines of the block with one more, where it may have that line: empty lines and comments aren't kept. A line says
-- which keys can be pressed, or what is to be seen of a state, as a line of ORDERS does.
unfoldable pub choices_with : List (List ℕ) → List ℕ → Option (List (List ℕ))
choices_with lines text =
    let is_one = if is_key text then asks_keys text else is_some (sight_of text) in
    if is_blank_or_comment text then Some lines
    else if choices_have_room lines text && is_one then Some (lines ++ text ∷ []) else None

-- What the block asks, by what its first line asks: the keys, and what is to be seen, in the order of its lines.
unfoldable pub choices_block : ChoicesAsked → List (List ℕ) → ChoicesBlock
choices_block asked lines =
    record {
      asked = asked;
      choices = flat_map (λ l. filter_map choice_of (lines_meant l)) lines;
      sights = flat_map (λ l. sights_in (orders_line_of l)) lines;
    }
