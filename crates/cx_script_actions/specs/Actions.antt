-- What a line of a script asks where it is not in a block (own).
use Rattle.std.specs.Prelude.{ℕ, Bool, true, false, None, ◌==◌, if◌then◌else◌, Option, Some, unwrap_or, List, [], ◌∷◌, codes}
use Rattle.std.specs.Option.{option_and_then, option_map}
use Rattle.std.specs.List.{find}
use Rattle.std.specs.Str.{bytes_eq}
use Rattle.cx_ebcdic.specs.Names.{padded_name}
use Rattle.cx_ebcdic.specs.Aids.{key_of}
use Rattle.cx_ebcdic.specs.declared.aids.Aid.{Aid}
use Rattle.cx_ebcdic.specs.declared.aids.Aid.TheVariants.{Enter, Clear, Pa1, Pa2, Pf1, Pf2, Pf3, Pf4, Pf5, Pf6, Pf7, Pf8, Pf9, Pf10, Pf11, Pf12}
use Rattle.cx_region.specs.declared.replies.Event.{Event}
use Rattle.cx_region.specs.declared.replies.Event.TheVariants as event
use Rattle.cx_edf.specs.declared.answers.EdfEvent.TheVariants as edf
use Rattle.cx_script_actions.specs.Words.{word, after_first_blank, two_words, number_with_digits, codes_of_key}
use Rattle.cx_script_actions.specs.Alterations.{change_of}
use Rattle.cx_script_actions.specs.declared.actions.Action.{Action}
use Rattle.cx_script_actions.specs.declared.actions.Action.TheVariants as action
use Rattle.cx_script_actions.specs.declared.actions.Line.{Line}
use Rattle.cx_script_actions.specs.declared.actions.Line.TheVariants as line
use Rattle.cx_script_actions.specs.declared.actions.NoHeading.{NoHeading}
use Rattle.cx_script_actions.specs.declared.actions.Wanted.{Wanted}

abbrev pub aids : List Aid
aids = Enter ∷ Clear ∷ Pa1 ∷ Pa2 ∷ Pf1 ∷ Pf2 ∷ Pf3 ∷ Pf4 ∷ Pf5 ∷ Pf6 ∷ Pf7 ∷ Pf8 ∷ Pf9 ∷ Pf10 ∷ Pf11 ∷ Pf12 ∷ []

-- the key of a name
unfoldable pub aid_of : List ℕ → Option Aid
aid_of text = find (λ aid. bytes_eq (key_of aid).name text) aids

-- a key and the codes of its text: none is the empty one
abbrev pub key_with_text : List ℕ → Option (Aid × List ℕ)
key_with_text text =
    let bytes = codes_of_key (unwrap_or (after_first_blank text) []) in
    option_and_then (λ aid. option_map (λ pressed. (aid, pressed)) bytes) (aid_of (word text))

-- a line that gives an event of the region
abbrev pub event_line : Event → Line Action NoHeading
event_line e = line.Action (action.Event (edf.Plain e))

-- ON or OFF of a terminal's EDF
abbrev pub switch_of : List ℕ → Option Bool
switch_of text =
    let is = bytes_eq text in if is (codes "ON") then Some true else if is (codes "OFF") then Some false else None

abbrev pub edf_switch : List ℕ → Bool → Line Action NoHeading
edf_switch name on = line.Action (action.Event (if on then edf.On name else edf.Off name))

-- the display that is shown, or the one a given number before the newest
abbrev pub display_line : List ℕ → Option (List ℕ) → Option (Line Action NoHeading)
display_line name None = Some (line.Action (action.Display name))
display_line name (Some back) = option_map (λ k. line.Action (action.Previous name k)) (number_with_digits 1 1 back)

-- what is written of a source: the listing, the disassembly, or both, in this order; nothing where there is no word
abbrev pub wanted_of : Option (List ℕ) → Option Wanted
wanted_of None = Some (record { listing = false; disassembly = false })
wanted_of (Some text) =
    if bytes_eq text (codes "LIST") then Some (record { listing = true; disassembly = false })
    else if bytes_eq text (codes "DISASM") then Some (record { listing = false; disassembly = true })
    else if bytes_eq text (codes "LIST DISASM") then Some (record { listing = true; disassembly = true }) else None

-- the line that begins a source's block
abbrev pub source_line : List ℕ → Option (List ℕ) → Option (Line Action NoHeading)
source_line name rest = option_map (λ wanted. line.Source name wanted) (wanted_of rest)

-- what a line asks by its first word and the words after it
unfoldable pub line_asked_for : List ℕ → List ℕ → Option (Line Action NoHeading)
line_asked_for verb text =
    let is = bytes_eq verb in
    if is (codes "IMAGE") then two_words line.Image (padded_name 8) (number_with_digits 1 9) text
    else if is (codes "SOURCE")
    then option_and_then (λ name. source_line name (after_first_blank text)) (padded_name 8 (word text))
    else if is (codes "TRANSACTION")
    then two_words (λ t p. event_line (event.Transaction t p)) (padded_name 4) (padded_name 8) text
    else if is (codes "TERMINAL") then option_map (λ name. event_line (event.Terminal name)) (padded_name 4 text)
    else if is (codes "CLOCK")
    then two_words (λ t d. event_line (event.Clock t d)) (number_with_digits 6 6) (number_with_digits 5 5) text
    else if is (codes "KEY")
    then two_words (λ n key. event_line (event.Key n key.0 key.1)) (padded_name 4) key_with_text text
    else if is (codes "TURN") then option_map (λ name. event_line (event.Turn name)) (padded_name 4 text)
    else if is (codes "EDF") then two_words edf_switch (padded_name 4) switch_of text
    else if is (codes "DISPLAY")
    then option_and_then (λ name. display_line name (after_first_blank text)) (padded_name 4 (word text))
    else if is (codes "SCREEN") then option_map (λ name. line.Action (action.Screen name)) (padded_name 4 text)
    else if is (codes "ALTER")
    then two_words (λ name change. event_line (event.Alter name change)) (padded_name 4) change_of text
    else None

-- an empty line, or one that begins with an asterisk
abbrev pub is_blank_or_comment : List ℕ → Bool
is_blank_or_comment [] = true
is_blank_or_comment (c ∷ cs) = c == 42

-- What a line asks; None where it is a bad line.
unfoldable pub line_of : List ℕ → Option (Line Action NoHeading)
line_of text =
    if is_blank_or_comment text then Some line.Blank
    else option_and_then (line_asked_for (word text)) (after_first_blank text)
