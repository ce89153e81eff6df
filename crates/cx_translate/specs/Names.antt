-- Arguments as they may be written: values as they are, and names in apostrophes (Application Programmer's Reference
-- Manual, SC33-0077, "Argument values"; GC33-4010, "Character Constant").
use Rattle.std.specs.Prelude.{ℕ, ◌+◌, Bool, false, ◌&&◌, ◌||◌, not, ◌==◌, nat_le, if◌then◌else◌, List, [], ◌∷◌, drop, slice_index}
use Rattle.std.specs.List.{list_any}
use Rattle.std.specs.Str.{byte}
use Rattle.cx_source.specs.Lines.{is_written, skip_blanks, trim_blanks}

-- an argument without the blanks round it
unfoldable pub bare_argument : List ℕ → List ℕ
bare_argument text = trim_blanks (skip_blanks text)

-- it begins with an apostrophe
unfoldable pub is_quoted : List ℕ → Bool
is_quoted text = slice_index (bare_argument text) 0 == byte "'"

-- After an opening apostrophe: each apostrophe is one of a pair except the last character, which ends the text. The
-- first argument says whether an apostrophe precedes that may be the first of a pair.
abbrev pub closes_from : Bool → List ℕ → Bool
closes_from pending [] = pending
closes_from pending (c ∷ cs) =
    if c == byte "'" then closes_from (not pending) cs else (not pending && closes_from false cs)

-- How many characters a text stands for: two apostrophes, or two ampersands, stand for one. The first argument is the
-- character before it, where that waits for its other half, else 0.
abbrev pub characters_from : ℕ → List ℕ → ℕ
characters_from held [] = 0
characters_from held (c ∷ cs) =
    if (c == byte "'" || c == byte "&") && c == held then characters_from 0 cs else 1 + characters_from c cs

-- a name of 1 to n characters in apostrophes; with the apostrophe that ends it, one character more is counted
unfoldable pub is_name_text : ℕ → List ℕ → Bool
is_name_text n text =
    slice_index text 0 == byte "'" && closes_from false (drop 1 text)
    && nat_le 2 (characters_from 0 (drop 1 text)) && nat_le (characters_from 0 (drop 1 text)) (n + 1)

-- A value that is written as it is: not blank, and not in apostrophes.
unfoldable pub is_value : List ℕ → Bool
is_value text = list_any is_written text && not (is_quoted text)

-- A name of up to n characters in apostrophes, or the place of one.
unfoldable pub is_name_or_place : ℕ → List ℕ → Bool
is_name_or_place n text = if is_quoted text then is_name_text n (bare_argument text) else list_any is_written text
