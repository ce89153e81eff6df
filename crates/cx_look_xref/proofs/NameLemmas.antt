-- Characters beside whether they lie outside apostrophes.
use Rattle.std.specs.Prelude.{ℕ, Bool, List, [], ◌∷◌, drop, length}
use Rattle.std.specs.Option.{option_to_list}
use Rattle.std.proofs.Common.{◌≡◌, ◌≤◌, refl}
use Rattle.std.proofs.Math.ListN.{drop_of_length-le}
use Rattle.cx_asm_expressions.specs.Names.{symbol_name}
use Rattle.cx_look_xref.specs.References.{names_from}

ends_there : (run text : List ℕ) → names_from run text [] ≡ option_to_list (symbol_name run)
ends_there run [] = refl
ends_there run (c ∷ text) = refl

-- where it isn't known of a character the name ends
pub names_end : (run text : List ℕ) (outside : List Bool) (i : ℕ) → length outside ≤ i
    → names_from run text (drop i outside) ≡ option_to_list (symbol_name run)
names_end run text outside i past = rw (drop_of_length-le outside {i = i} past) (ends_there run text)
