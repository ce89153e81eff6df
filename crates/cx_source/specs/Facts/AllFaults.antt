-- The first of all faults is the first fault.
use Rattle.std.proofs.Common.{◌≡◌, ◌+◌, ℕ, Bool, true, false, cond, Option, Some, None, List, [], ◌∷◌, ◌++◌, slice_get, map, Ok, Err, refl, ap}
use Rattle.std.specs.Option.{option_map_or, option_or, option_to_list}
use Rattle.cx_source.specs.Faults.{source_fault, goes_on, line_faults, source_from, source_in}
use Rattle.cx_source.specs.Lines.{text_of}
use Rattle.cx_source.specs.Statements.{is_continued, is_last, up_to_end}
use Rattle.cx_source.specs.declared.source.SourceFault.{SourceFault}
use Rattle.cx_source.specs.declared.source.SourceFault.TheVariants.{NoEnd}

-- the first one, line by line
abbrev pub first_fault : Bool → ℕ → List (List ℕ) → Option SourceFault
first_fault continues number [] = Some (NoEnd number)
first_fault continues number (line ∷ more) =
    option_or (source_fault continues number line)
    (cond (is_last continues (text_of line)) None (first_fault (is_continued continues (text_of line)) (number + 1) more))

with_rest : (fault : Option SourceFault) (last : Bool) (faults : List SourceFault) (first : Option SourceFault) → slice_get faults 0 ≡ first
    → slice_get (option_to_list fault ++ cond last [] faults) 0 ≡ option_or fault (cond last None first)
with_rest (Some fault) last faults first e = refl
with_rest None true faults first e = refl
with_rest None false faults first e = e

after_line : (continues : Bool) (number : ℕ) (line : List ℕ) (more : List (List ℕ)) (fault : Option SourceFault)
    → slice_get (line_faults (is_continued continues (text_of line)) (number + 1) more) 0 ≡ first_fault (is_continued continues (text_of line)) (number + 1) more
    → slice_get (option_to_list fault ++ cond (is_last (goes_on continues fault) (text_of line)) []
    (line_faults (is_continued (goes_on continues fault) (text_of line)) (number + 1) more)) 0
    ≡ option_or fault (cond (is_last continues (text_of line)) None (first_fault (is_continued continues (text_of line)) (number + 1) more))
after_line continues number line more (Some fault) e = refl
after_line continues number line more None e = with_rest None (is_last continues (text_of line)) _ _ e

pub first_of_faults : (continues : Bool) (number : ℕ) (all : List (List ℕ)) → slice_get (line_faults continues number all) 0 ≡ first_fault continues number all
first_of_faults continues number [] = refl
first_of_faults continues number (line ∷ more) =
    after_line continues number line more (source_fault continues number line) (first_of_faults (is_continued continues (text_of line)) (number + 1) more)

pub source_is : (all : List (List ℕ)) → source_in all ≡ option_map_or Err (first_fault false 1 all) (Ok (source_from (up_to_end false (map text_of all))))
unfolding source_in
source_is all =
    ap (λ (fault : Option SourceFault). option_map_or Err fault (Ok (source_from (up_to_end false (map text_of all))))) (first_of_faults false 1 all)
