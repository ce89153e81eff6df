-- A source, or its translation, is the same whether its first fault is asked for or all are.
use Rattle.std.proofs.Common.{◌≡◌, ℕ, false, map, Option, Some, None, List, [], ◌∷◌, slice_get, Ok, Err, refl}
use Rattle.std.specs.Option.{option_map_or}
use Rattle.std.specs.Result.{result_ok}
use Rattle.cx_source.specs.Faults.{line_faults, source_from, source_in, source_or_faults, unless_faulty}
use Rattle.cx_source.specs.Lines.{text_of}
use Rattle.cx_source.specs.Statements.{up_to_end}
use Rattle.cx_source.specs.declared.source.Source.{Source}
use Rattle.cx_translate.specs.Translation.{made_source, statement_faults, translation_of, translation_or_faults}

unless_first : {F : Type 0} (source : Source) (first : Option F) (faults : List F) → slice_get faults 0 ≡ first
    → result_ok (option_map_or (λ fault. Err fault) first (Ok source)) ≡ result_ok (unless_faulty faults source)
unless_first source None [] e = refl
unless_first source (Some first) [] e = absurd (cc)
unless_first source None (fault ∷ more) e = absurd (cc)
unless_first source (Some first) (fault ∷ more) e = refl

pub read_alike : (all : List (List ℕ)) → result_ok (source_in all) ≡ result_ok (source_or_faults all)
unfolding source_in source_or_faults
read_alike all =
    unless_first (source_from (up_to_end false (map text_of all))) (slice_get (line_faults false 1 all) 0) (line_faults false 1 all) refl

pub translated_alike : (source : Source) → result_ok (translation_of source) ≡ result_ok (translation_or_faults source)
unfolding translation_of translation_or_faults
translated_alike source = unless_first (made_source source) (slice_get (statement_faults source.items) 0) (statement_faults source.items) refl
