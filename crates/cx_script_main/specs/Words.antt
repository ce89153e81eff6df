-- The words that a program is started with (own).
use Rattle.std.specs.Prelude.{ℕ, ◌==◌, ◌||◌, Bool, false, List, [], ◌∷◌, Option, Some, None, codes, if◌then◌else◌}
use Rattle.std.specs.Option.{option_and_then}
use Rattle.std.specs.Str.{bytes_eq}
use Rattle.cx_script_main.specs.declared.program.Texts.{Texts}

-- whether a word is an option: a hyphen with more after it
abbrev pub is_option_word : List ℕ → Bool
is_option_word (c ∷ d ∷ more) = c == 0x2D
is_option_word _ = false

-- The file that the words name, where they name one: after the program's own name there is at most one word, and it is
-- no option.
-- Any others are refused.
abbrev pub file_of : List (List ℕ) → Option (Option (List ℕ))
file_of [] = Some None
file_of (own ∷ []) = Some None
file_of (own ∷ file ∷ []) = if is_option_word file then None else Some (Some file)
file_of (own ∷ file ∷ more ∷ rest) = None

-- the text that a word asks for
abbrev pub text_for : List ℕ → Texts → Option (List ℕ)
text_for word texts =
    if bytes_eq word (codes "--help") || bytes_eq word (codes "-h") then Some texts.help.now
    else if bytes_eq word (codes "--version") || bytes_eq word (codes "-V") then Some texts.version.now
    else None

-- the text that words ask for, where the program has such texts: the one word after its own name does
abbrev pub text_of : Option Texts → List (List ℕ) → Option (List ℕ)
text_of texts (own ∷ word ∷ []) = option_and_then (text_for word) texts
text_of texts _ = None
