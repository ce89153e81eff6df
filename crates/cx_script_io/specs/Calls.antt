-- What devices do when they are called (own).
use Rattle.std.specs.Prelude.{ℕ, ◌++◌, List, [], ◌∷◌, take, Option, Some, None, Result, Ok, Err}
use Rattle.std.specs.Option.{option_or}

-- what a call moved, by its answer: the first n of these bytes; None where it failed
abbrev pub moved : {E : Type 0} → Result ℕ E → List ℕ → Option (List ℕ)
moved (Ok n) bytes = Some (take n bytes)
moved (Err fault) bytes = None

-- a call: the bytes that a read gave, or that a write took; None where it failed
pub data DeviceCall : Type 0 where
  Reading : Option (List ℕ) → DeviceCall
  Writing : Option (List ℕ) → DeviceCall

-- the bytes that the reads gave, in order
abbrev pub given : List DeviceCall → List ℕ
given [] = []
given (Reading (Some bytes) ∷ calls) = bytes ++ given calls
given (Reading None ∷ calls) = given calls
given (Writing bytes ∷ calls) = given calls

-- the bytes that the writes took, in order
abbrev pub taken : List DeviceCall → List ℕ
taken [] = []
taken (Writing (Some bytes) ∷ calls) = bytes ++ taken calls
taken (Writing None ∷ calls) = taken calls
taken (Reading bytes ∷ calls) = taken calls

-- what the last read gave
abbrev pub last_read : List DeviceCall → Option (Option (List ℕ))
last_read [] = None
last_read (Reading bytes ∷ calls) = option_or (last_read calls) (Some bytes)
last_read (Writing bytes ∷ calls) = last_read calls

-- what a call did, by what a read and a write of these devices do
abbrev pub did : {D : Type 0} → (D → Option (List ℕ) → D → Type 0) → (D → Option (List ℕ) → D → Type 0) → D → DeviceCall
    → D
    → Type 0
did reads writes before (Reading bytes) after = reads before bytes after
did reads writes before (Writing bytes) after = writes before bytes after
