-- A key of a block is what its line asks.
use Rattle.std.proofs.Common.{◌≡◌, ℕ, Bool, true, false, Option, Some, None, List, [], ◌∷◌, ◌++◌, cond, length, nat_le, refl, subst}
use Rattle.std.specs.List.{AllByRecursion, cons_option, filter_map, flat_map}
use Rattle.std.specs.Option.{option_and_then, option_map}
use Rattle.std.proofs.lemmas.Option.{none-some, same_Some}
use Rattle.cx_edf.specs.declared.answers.EdfEvent.{EdfEvent}
use Rattle.cx_edf.specs.declared.answers.EdfEvent.TheVariants as edf
use Rattle.cx_orders.specs.declared.states.KeyLine.{KeyLine}
use Rattle.cx_region.specs.declared.replies.Event.{Event}
use Rattle.cx_region.specs.declared.replies.Event.TheVariants as event
use Rattle.cx_script_actions.specs.Actions.{is_blank_or_comment, line_of}
use Rattle.cx_script_actions.specs.declared.actions.Action.{Action}
use Rattle.cx_script_actions.specs.declared.actions.Action.TheVariants as action
use Rattle.cx_script_actions.specs.declared.actions.Line.{Line}
use Rattle.cx_script_actions.specs.declared.actions.Line.TheVariants as line
use Rattle.cx_script_actions.specs.declared.actions.NoHeading.{NoHeading}
use Rattle.cx_look.specs.Choices.{choice_of, choices_block, lines_meant}
use Rattle.cx_look.specs.Parts.{choices_in}
use Rattle.cx_look.specs.Laws.{IsAskedByItsLine}
use Rattle.cx_look.specs.Orders.{event_in, is_key, key_in, key_line_of, keys_in, orders_block, orders_line_of, sight_of}
use Rattle.cx_look.specs.declared.choices.ChoicesAsked.{ChoicesAsked}
use Rattle.cx_look.specs.declared.orders.OrdersAsked.{OrdersAsked}
use Rattle.cx_look.specs.declared.orders.OrdersLine.TheVariants as says
use Rattle.cx_look.specs.declared.orders.Sight.{Sight}

-- what a line asks, where this is a key
asked_event : (text : List ℕ) (e : Event) (key : KeyLine) → line_of text ≡ Some (line.Action (action.Event (edf.Plain e)))
    → key_in text (edf.Plain e) ≡ Some key → IsAskedByItsLine key
asked_event text (event.Key name aid bytes) key asks is =
    subst IsAskedByItsLine (same_Some (let made : KeyLine = record { name = name; aid = aid; bytes = bytes; line = text } in made) key is) asks
asked_event text (event.Program name image) key asks is = absurd (none-some key is)
asked_event text (event.Transaction name program) key asks is = absurd (none-some key is)
asked_event text (event.Terminal name) key asks is = absurd (none-some key is)
asked_event text (event.Clock time date) key asks is = absurd (none-some key is)
asked_event text (event.Turn name) key asks is = absurd (none-some key is)
asked_event text (event.Alter name change) key asks is = absurd (none-some key is)

asked_edf : (text : List ℕ) (e : EdfEvent) (key : KeyLine) → line_of text ≡ Some (line.Action (action.Event e)) → key_in text e ≡ Some key
    → IsAskedByItsLine key
asked_edf text (edf.Plain e) key asks is = asked_event text e key asks is
asked_edf text (edf.On name) key asks is = absurd (none-some key is)
asked_edf text (edf.Off name) key asks is = absurd (none-some key is)

asked_action : (text : List ℕ) (a : Action) (key : KeyLine) → line_of text ≡ Some (line.Action a)
    → option_and_then (key_in text) (event_in (line.Action a)) ≡ Some key → IsAskedByItsLine key
asked_action text (action.Event e) key asks is = asked_edf text e key asks is
asked_action text (action.Image name image) key asks is = absurd (none-some key is)
asked_action text (action.Source name before image) key asks is = absurd (none-some key is)
asked_action text (action.Screen name) key asks is = absurd (none-some key is)
asked_action text (action.Display name) key asks is = absurd (none-some key is)
asked_action text (action.Previous name k) key asks is = absurd (none-some key is)

asked_line : (text : List ℕ) (asked : Option (Line Action NoHeading)) (key : KeyLine) → line_of text ≡ asked
    → option_and_then (key_in text) (option_and_then event_in asked) ≡ Some key → IsAskedByItsLine key
asked_line text None key asks is = absurd (none-some key is)
asked_line text (Some line.Blank) key asks is = absurd (none-some key is)
asked_line text (Some (line.Image name stg_len)) key asks is = absurd (none-some key is)
asked_line text (Some (line.Source name wanted)) key asks is = absurd (none-some key is)
asked_line text (Some (line.Lines heading)) key asks is = absurd (none-some key is)
asked_line text (Some (line.Action a)) key asks is = asked_action text a key asks is

-- ---- the keys of lines
in_line : (blank is : Bool) (key : Option KeyLine) (seen : Option Sight) → ((k : KeyLine) → key ≡ Some k → IsAskedByItsLine k)
    → AllByRecursion IsAskedByItsLine (keys_in (cond blank (Some says.Blank) (cond is (option_map (λ k. says.Key k) key) (option_map (λ s. says.Sight s) seen))))
in_line true is key seen each = tt
in_line false true None seen each = tt
in_line false true (Some k) seen each = (each k refl, tt)
in_line false false key None each = tt
in_line false false key (Some s) each = tt

of_line : (text : List ℕ) → AllByRecursion IsAskedByItsLine (keys_in (orders_line_of text))
unfolding orders_line_of
of_line text =
    in_line (is_blank_or_comment text) (is_key text) (key_line_of text) (sight_of text) (λ key is. asked_line text (line_of text) key refl is)

all_append : (some more : List KeyLine) → AllByRecursion IsAskedByItsLine some → AllByRecursion IsAskedByItsLine more
    → AllByRecursion IsAskedByItsLine (some ++ more)
all_append [] more all others = others
all_append (key ∷ some) more all others = (all.0, all_append some more all.1 others)

of_lines : (lines : List (List ℕ)) → AllByRecursion IsAskedByItsLine (flat_map (λ l. keys_in (orders_line_of l)) lines)
of_lines [] = tt
of_lines (l ∷ lines) = all_append (keys_in (orders_line_of l)) (flat_map (λ l. keys_in (orders_line_of l)) lines) (of_line l) (of_lines lines)

pub keys_are_asked : (asked : OrdersAsked) (lines : List (List ℕ)) → AllByRecursion IsAskedByItsLine (orders_block asked lines).keys
unfolding orders_block
keys_are_asked asked lines = of_lines lines

-- ---- the keys that lines stand for
of_choice : (text : List ℕ) (fits : Bool) (key : KeyLine) → cond fits (key_line_of text) None ≡ Some key → IsAskedByItsLine key
of_choice text true key is = asked_line text (line_of text) key refl is
of_choice text false key is = absurd (none-some key is)

of_choices : (lines : List (List ℕ)) → AllByRecursion IsAskedByItsLine (filter_map choice_of lines)
of_choices [] = tt
of_choices (text ∷ lines) = by (choice_of text) (λ key is. of_choice text (nat_le (length text) 4096) key is) (of_choices lines)
  where
    by : (o : Option KeyLine) → ((key : KeyLine) → o ≡ Some key → IsAskedByItsLine key) → AllByRecursion IsAskedByItsLine (filter_map choice_of lines)
        → AllByRecursion IsAskedByItsLine (cons_option o (filter_map choice_of lines))
    by None each more = more
    by (Some key) each more = (each key refl, more)

of_choice_lines : (lines : List (List ℕ)) → AllByRecursion IsAskedByItsLine (flat_map choices_in lines)
of_choice_lines [] = tt
of_choice_lines (l ∷ lines) = all_append (choices_in l) (flat_map choices_in lines) (of_choices (lines_meant l)) (of_choice_lines lines)

pub choices_are_asked : (asked : ChoicesAsked) (lines : List (List ℕ)) → AllByRecursion IsAskedByItsLine (choices_block asked lines).choices
unfolding choices_block
choices_are_asked asked lines = of_choice_lines lines
