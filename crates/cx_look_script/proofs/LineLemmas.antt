-- What every line of a script of `cicsedf` asks, by what each kind of line asks.
use Rattle.std.proofs.Common.{◌≡◌, ℕ, Bool, true, false, Option, Some, None, List, codes, refl}
use Rattle.std.specs.Prelude.{IfSome, if◌then◌else◌}
use Rattle.std.specs.Option.{option_and_then, option_map}
use Rattle.std.specs.Str.{bytes_eq}
use Rattle.cx_ebcdic.specs.Names.{padded_name}
use Rattle.cx_region.specs.declared.replies.Event.TheVariants as event
use Rattle.cx_edf.specs.declared.answers.EdfEvent.TheVariants as edf_event
use Rattle.cx_script_actions.specs.Actions.{line_asked_for, display_line, event_line, is_blank_or_comment, key_with_text, line_of, source_line, switch_of, edf_switch, wanted_of}
use Rattle.cx_script_actions.specs.Alterations.{change_of}
use Rattle.cx_script_actions.specs.Words.{after_first_blank, number_with_digits, two_words, word}
use Rattle.cx_script_actions.specs.declared.actions.Action.{Action}
use Rattle.cx_script_actions.specs.declared.actions.Action.TheVariants as action
use Rattle.cx_script_actions.specs.declared.actions.Line.{Line}
use Rattle.cx_script_actions.specs.declared.actions.Line.TheVariants as line
use Rattle.cx_script_actions.specs.declared.actions.NoHeading.{NoHeading}
use Rattle.cx_script_actions.specs.declared.actions.Wanted.{Wanted}
use Rattle.cx_look_script.proofs.NameLemmas.{MayAct}

-- no name at all
abbrev pub NoName : List ℕ → Type 0
NoName name = ⊥

-- so it is of each kind of line: an empty one or a comment, those that begin a block, one that defines a terminal, whose
-- name is spelled in it, and any other
pub record IsOfLines (Is : Line Action NoHeading → Type 0) : Type 0 where
  pub blank : Is line.Blank
  pub image : (name : List ℕ) (length : ℕ) → Is (line.Image name length)
  pub source : (name : List ℕ) (wanted : Wanted) → Is (line.Source name wanted)
  pub terminal : (name text : List ℕ) → padded_name 4 text ≡ Some name → Is (event_line (event.Terminal name))
  pub other : (a : Action) → MayAct NoName a → Is (line.Action a)

module _ (Is : Line Action NoHeading → Type 0) (of : IsOfLines Is) where
  mapped : {B : Type 0} (f : B → Line Action NoHeading) (o : Option B) → ((b : B) → Is (f b)) → IfSome (option_map f o) Is
  mapped f None h = tt
  mapped f (Some b) h = h b

  chained : {B : Type 0} (f : B → Option (Line Action NoHeading)) (o : Option B) → ((b : B) → IfSome (f b) Is) → IfSome (option_and_then f o) Is
  chained f None h = tt
  chained f (Some b) h = h b

  paired : {A B : Type 0} (make : A → B → Line Action NoHeading) (first : List ℕ → Option A) (second : List ℕ → Option B) (text : List ℕ)
      → ((a : A) (b : B) → Is (make a b)) → IfSome (two_words make first second text) Is
  paired make first second text h =
      chained (λ a. option_map (make a) (option_and_then second (after_first_blank text))) (first (word text))
      (λ a. mapped (make a) (option_and_then second (after_first_blank text)) (h a))

  either : (b : Bool) (one other : Option (Line Action NoHeading)) → IfSome one Is → IfSome other Is → IfSome (if b then one else other) Is
  either true one other h more = h
  either false one other h more = more

  source_is : (name : List ℕ) (rest : Option (List ℕ)) → IfSome (source_line name rest) Is
  source_is name rest = mapped (λ wanted. line.Source name wanted) (wanted_of rest) (of.source name)

  terminal_is : (text : List ℕ) → IfSome (option_map (λ name. event_line (event.Terminal name)) (padded_name 4 text)) Is
  terminal_is text = by (padded_name 4 text) refl
    where
      by : (o : Option (List ℕ)) → padded_name 4 text ≡ o → IfSome (option_map (λ name. event_line (event.Terminal name)) o) Is
      by None spells = tt
      by (Some name) spells = of.terminal name text spells

  switch_is : (name : List ℕ) (on : Bool) → Is (edf_switch name on)
  switch_is name true = of.other (action.Event (edf_event.On name)) tt
  switch_is name false = of.other (action.Event (edf_event.Off name)) tt

  display_is : (name : List ℕ) (back : Option (List ℕ)) → IfSome (display_line name back) Is
  display_is name None = of.other (action.Display name) tt
  display_is name (Some back) = mapped (λ k. line.Action (action.Previous name k)) (number_with_digits 1 1 back) (λ k. of.other (action.Previous name k) tt)

  asked_is : (verb text : List ℕ) → IfSome (line_asked_for verb text) Is
  unfolding line_asked_for
  asked_is verb text =
      either (bytes_eq verb (codes "IMAGE")) _ _ (paired line.Image (padded_name 8) (number_with_digits 1 9) text of.image)
      (either (bytes_eq verb (codes "SOURCE")) _ _ (chained (λ name. source_line name (after_first_blank text)) (padded_name 8 (word text)) (λ name. source_is name (after_first_blank text)))
      (either (bytes_eq verb (codes "TRANSACTION")) _ _ (paired (λ t p. event_line (event.Transaction t p)) (padded_name 4) (padded_name 8) text (λ t p. of.other (action.Event (edf_event.Plain (event.Transaction t p))) tt))
      (either (bytes_eq verb (codes "TERMINAL")) _ _ (terminal_is text)
      (either (bytes_eq verb (codes "CLOCK")) _ _ (paired (λ t d. event_line (event.Clock t d)) (number_with_digits 6 6) (number_with_digits 5 5) text (λ t d. of.other (action.Event (edf_event.Plain (event.Clock t d))) tt))
      (either (bytes_eq verb (codes "KEY")) _ _ (paired (λ n key. event_line (event.Key n key.0 key.1)) (padded_name 4) key_with_text text (λ n key. of.other (action.Event (edf_event.Plain (event.Key n key.0 key.1))) tt))
      (either (bytes_eq verb (codes "TURN")) _ _ (mapped (λ name. event_line (event.Turn name)) (padded_name 4 text) (λ name. of.other (action.Event (edf_event.Plain (event.Turn name))) tt))
      (either (bytes_eq verb (codes "EDF")) _ _ (paired edf_switch (padded_name 4) switch_of text switch_is)
      (either (bytes_eq verb (codes "DISPLAY")) _ _ (chained (λ name. display_line name (after_first_blank text)) (padded_name 4 (word text)) (λ name. display_is name (after_first_blank text)))
      (either (bytes_eq verb (codes "SCREEN")) _ _ (mapped (λ name. line.Action (action.Screen name)) (padded_name 4 text) (λ name. of.other (action.Screen name) tt))
      (either (bytes_eq verb (codes "ALTER")) _ _ (paired (λ name change. event_line (event.Alter name change)) (padded_name 4) change_of text (λ name change. of.other (action.Event (edf_event.Plain (event.Alter name change))) tt)) tt))))))))))

  pub lines_are : (text : List ℕ) → IfSome (line_of text) Is
  unfolding line_of
  lines_are text = either (is_blank_or_comment text) _ _ of.blank (chained (line_asked_for (word text)) (after_first_blank text) (asked_is (word text)))
