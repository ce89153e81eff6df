-- What is known from places is what is known from the whole source.
use Rattle.std.proofs.Common.{◌≡◌, ℕ, Option, Some, None, List, option_map, refl, ◌∙◌, ap}
use Rattle.std.proofs.Math.Path.{fun_ext}
use Rattle.cx_source.specs.declared.source.Source.{Source}
use Rattle.cx_asm_expressions.specs.declared.values.Value.{Value}
use Rattle.cx_asm_pools.specs.Pools.{PlacedLiterals}
use Rattle.cx_asm_pass1.specs.Locations.{IsPlaced, final_state}
use Rattle.cx_asm_pass1.specs.declared.place.ControlSection.{ControlSection}
use Rattle.cx_asm_pass1.specs.declared.places.Places.{Places}
use Rattle.cx_asm_pass2.specs.Whole.{whole, whole_of, whole_by}

named_back : (control : Option (List ℕ)) (length : ℕ) → option_map (λ (c : ControlSection). c.name) (option_map (λ name. record { name = name; length = length }) control) ≡ control
named_back None length = refl
named_back (Some name) length = refl

same : (f g : List ℕ → Option Value) (ps qs : List PlacedLiterals) (c d : Option (List ℕ)) → f ≡ g → ps ≡ qs → c ≡ d → whole f ps c ≡ whole g qs d
same f g ps qs c d e1 e2 e3 = rw (e1, e2, e3) refl

pub whole_is : (source : Source) (places : Places) → IsPlaced (final_state source) places → whole_by places ≡ whole_of source
whole_is source places placed =
    same _ _ _ _ _ _ (fun_ext (λ n. placed.symbols n)) placed.pools
    (ap (λ (c : Option ControlSection). option_map (λ (s : ControlSection). s.name) c) placed.control ∙ named_back (final_state source).control _)
