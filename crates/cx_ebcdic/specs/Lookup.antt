-- A list whose parts may be missing (this product's own word for tables).
use Rattle.std.specs.Prelude.{Option, Some, List, [], ◌∷◌, option_map, option_and_then}

-- every part of the list, where each is there; None where one is missing
abbrev pub each_some : {A : Type 0} → List (Option A) → Option (List A)
each_some [] = Some []
each_some (x ∷ xs) = option_and_then (λ first. option_map (λ rest. first ∷ rest) (each_some xs)) x
