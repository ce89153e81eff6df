-- A line that begins with KEY is a key, or bad.
use Rattle.std.proofs.Common.{◌≡◌, ℕ, Bool, true, false, Option, Some, None, is_some, List, ap, codes, cond, refl, sym, subst, ◌∙◌}
use Rattle.std.specs.Option.{option_and_then, option_map}
use Rattle.std.proofs.lemmas.Slice.Eq.{bytes_eq-Decides}
use Rattle.cx_ebcdic.specs.Names.{padded_name}
use Rattle.cx_ebcdic.specs.declared.aids.Aid.{Aid}
use Rattle.cx_region.specs.declared.replies.Event.TheVariants as event
use Rattle.cx_script_actions.specs.Actions.{event_line, is_blank_or_comment, key_with_text, line_asked_for, line_of}
use Rattle.cx_script_actions.specs.Words.{after_first_blank, word}
use Rattle.cx_script_actions.specs.declared.actions.Action.{Action}
use Rattle.cx_script_actions.specs.declared.actions.Line.{Line}
use Rattle.cx_script_actions.specs.declared.actions.Line.TheVariants as line
use Rattle.cx_script_actions.specs.declared.actions.NoHeading.{NoHeading}
use Rattle.cx_look.specs.Orders.{event_in, is_key, key_in, key_line_of}

-- what KEY asks, by what follows it
pressed : (text name : List ℕ) (o : Option (Aid × List ℕ)) → is_some (option_map (λ key. event_line (event.Key name key.0 key.1)) o) ≡ true
    → is_some (option_and_then (key_in text) (option_and_then event_in (option_map (λ (key : Aid × List ℕ). event_line (event.Key name key.0 key.1)) o))) ≡ true
pressed text name None e = e
pressed text name (Some key) e = refl

at_terminal : (text : List ℕ) (o : Option (List ℕ)) (key : Option (Aid × List ℕ))
    → is_some (option_and_then (λ name. option_map (λ (pressed : Aid × List ℕ). event_line (event.Key name pressed.0 pressed.1)) key) o) ≡ true
    → is_some (option_and_then (key_in text) (option_and_then event_in (option_and_then (λ name. option_map (λ (pressed : Aid × List ℕ). event_line (event.Key name pressed.0 pressed.1)) key) o))) ≡ true
at_terminal text None key e = e
at_terminal text (Some name) key e = pressed text name key e

asked : (text rest : List ℕ) → is_some (line_asked_for (codes "KEY") rest) ≡ true → is_some (option_and_then (key_in text) (option_and_then event_in (line_asked_for (codes "KEY") rest))) ≡ true
unfolding line_asked_for
asked text rest e = at_terminal text (padded_name 4 (word rest)) (option_and_then key_with_text (after_first_blank rest)) e

after : (text verb : List ℕ) (rest : Option (List ℕ)) → verb ≡ codes "KEY" → is_some (option_and_then (line_asked_for verb) rest) ≡ true
    → is_some (option_and_then (key_in text) (option_and_then event_in (option_and_then (line_asked_for verb) rest))) ≡ true
after text verb None same e = e
after text verb (Some rest) same e =
    subst (λ v. is_some (option_and_then (key_in text) (option_and_then event_in (line_asked_for v rest))) ≡ true) (sym same)
    (asked text rest (subst (λ v. is_some (line_asked_for v rest) ≡ true) same e))

pub is_asked : (text : List ℕ) → is_blank_or_comment text ≡ false → is_key text ≡ true → is_some (line_of text) ≡ true → is_some (key_line_of text) ≡ true
unfolding line_of
is_asked text more key e = go (is_blank_or_comment text) more e
  where
    go : (blank : Bool) → blank ≡ false → is_some (cond blank (Some line.Blank) (option_and_then (line_asked_for (word text)) (after_first_blank text))) ≡ true
        → is_some (option_and_then (key_in text) (option_and_then event_in (cond blank (Some line.Blank) (option_and_then (line_asked_for (word text)) (after_first_blank text))))) ≡ true
    go true not_blank e = cc
    go false not_blank e = after text (word text) (after_first_blank text) ((bytes_eq-Decides (word text) (codes "KEY")).0 key) e

-- ---- whether it is a key, by what follows KEY
line_is : (text : List ℕ) → is_blank_or_comment text ≡ false → is_key text ≡ true
    → line_of text ≡ option_and_then (line_asked_for (codes "KEY")) (after_first_blank text)
unfolding line_of
line_is text more key =
    ap (λ blank. cond blank (Some line.Blank) (option_and_then (line_asked_for (word text)) (after_first_blank text))) more
    ∙ ap (λ verb. option_and_then (line_asked_for verb) (after_first_blank text)) ((bytes_eq-Decides (word text) (codes "KEY")).0 key)

some_line : (text : List ℕ) (o : Option (Line Action NoHeading)) → is_some (option_and_then (key_in text) (option_and_then event_in o)) ≡ true → is_some o ≡ true
some_line text None e = e
some_line text (Some l) e = refl

same_bool : (a b : Bool) → (a ≡ true → b ≡ true) → (b ≡ true → a ≡ true) → a ≡ b
same_bool true b f g = sym (f refl)
same_bool false true f g = g refl
same_bool false false f g = refl

pub asks : (text : List ℕ) → is_blank_or_comment text ≡ false → is_key text ≡ true
    → is_some (option_and_then (line_asked_for (codes "KEY")) (after_first_blank text)) ≡ is_some (key_line_of text)
asks text more key =
    ap is_some (sym (line_is text more key))
    ∙ same_bool (is_some (line_of text)) (is_some (key_line_of text)) (is_asked text more key) (some_line text (line_of text))
