-- Where a task stops under suppression (own).
use Rattle.std.specs.Prelude.{ℕ, Bool, true, false, ◌||◌, ◌&&◌, ◌==◌, List, ◌∷◌, length, fold, codes, get_or, map, replicate, slice_set, Option, Some, None, if◌then◌else◌}
use Rattle.std.specs.List.{find, list_all, slice_split, zip}
use Rattle.std.specs.Option.{option_map}
use Rattle.cx_ebcdic.specs.Characters.{shown_as}
use Rattle.cx_base.specs.Conditions.{entry_of, handled_conditions, condition_place}
use Rattle.cx_base.specs.declared.conditions.Condition.{Condition}
use Rattle.cx_base.specs.declared.conditions.Condition.TheVariants as condition
use Rattle.cx_edf.specs.declared.stops.StopPoint.{StopPoint}
use Rattle.cx_edf.specs.declared.stops.StopPoint.TheVariants as kind
use Rattle.cx_edf.specs.declared.stops.Ending.TheVariants as ending
use Rattle.cx_edf.specs.declared.stop_words.StopWord.{StopWord}
use Rattle.cx_edf.specs.declared.stop_words.StopWord.TheVariants as word
use Rattle.cx_edf.specs.declared.stop_words.Stops.{Stops}

-- a stop condition as an operator enters it
abbrev pub stop_word_name : StopWord → List ℕ
stop_word_name word.Abend = codes "ABEND"
stop_word_name word.End = codes "END"
stop_word_name (word.Met condition) = (entry_of condition).name

-- bytes are shown as a text: they are as many, and each is shown as its character
abbrev pub is_shown_as : List ℕ → List ℕ → Bool
is_shown_as text bytes = (length bytes == length text) && list_all (λ p. shown_as p.0 == p.1) (zip bytes text)

-- the stop condition that bytes spell
unfoldable pub stop_word_of : List ℕ → Option StopWord
stop_word_of bytes =
    find (λ w. is_shown_as (stop_word_name w) bytes) (word.Abend ∷ word.End ∷ map word.Met handled_conditions)

-- no stop condition
abbrev pub no_stops : Stops
no_stops = record { abend = false; end = false; met = replicate (length (condition.Normal ∷ handled_conditions)) false }

-- these and one more
abbrev pub with_stop : Stops → StopWord → Stops
with_stop stops word.Abend = record stops { abend = true }
with_stop stops word.End = record stops { end = true }
with_stop stops (word.Met condition) = record stops { met = slice_set stops.met (condition_place condition) true }

-- whether a condition is named
abbrev pub names : Stops → Condition → Bool
names stops condition = get_or stops.met (condition_place condition) false

-- What is taken under suppression: after NORMAL nothing, after another condition what is named, or all where ERROR is.
unfoldable pub takes : Stops → StopPoint → Bool
takes stops kind.Before = false
takes stops (kind.After condition.Normal) = false
takes stops (kind.After c) = names stops condition.Error || names stops c
takes stops (kind.Exit code) = stops.abend
takes stops (kind.Over ending.Ended) = stops.end
takes stops (kind.Over (ending.Abended code)) = stops.abend

-- stop conditions and that of one more part: an empty part is none, and there are none where a word isn't one
abbrev pub with_part : Option Stops → List ℕ → Option Stops
with_part None part = None
with_part (Some stops) part = if length part == 0 then Some stops else option_map (with_stop stops) (stop_word_of part)

-- the stop conditions that a text names: its words are its parts between blanks
unfoldable pub stops_named : List ℕ → Option Stops
stops_named text = fold with_part (Some no_stops) (slice_split (λ byte. byte == 0x40) text)
