-- The lines of a script (own).
use Rattle.std.specs.Prelude.{ℕ, Bool, ◌==◌, nat_lt, if◌then◌else◌, List, [], ◌∷◌, length}
use Rattle.std.specs.List.{slice_split}
use Rattle.std.specs.Str.Lines.{strip_carriage_return}
use Rattle.cx_script_io.specs.declared.input.Ending.{Ending}
use Rattle.cx_script_io.specs.declared.input.Ending.TheVariants.{AtEnd}

-- a line has at most 4,096 bytes
abbrev pub is_too_long : List ℕ → Bool
is_too_long line = nat_lt 4096 (length line)

-- The bytes after the last LF are a line at the script's end. Where no more could be read they are one only if they
-- have too many bytes already, a CR at their end not counted.
abbrev pub last_met : Ending → List ℕ → List (List ℕ)
last_met AtEnd part = if length part == 0 then [] else part ∷ []
last_met _ part = let line = strip_carriage_return part in if is_too_long line then line ∷ [] else []

-- A part that an LF ends is a line; one CR at its end is dropped.
abbrev pub lines_of_parts : Ending → List (List ℕ) → List (List ℕ)
lines_of_parts ending [] = []
lines_of_parts ending (part ∷ []) = last_met ending part
lines_of_parts ending (part ∷ next ∷ more) = strip_carriage_return part ∷ lines_of_parts ending (next ∷ more)

-- the lines of what was read
unfoldable pub lines_met : Ending → List ℕ → List (List ℕ)
lines_met ending bytes = lines_of_parts ending (slice_split (λ b. b == 10) bytes)
