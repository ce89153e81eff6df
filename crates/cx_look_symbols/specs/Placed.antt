-- The source that lines make, translated, where the assembler's first pass finds no fault in it (own).
use Rattle.std.specs.Prelude.{ℕ, Option, Some, None, option_and_then, if◌then◌else◌, is_none, List}
use Rattle.std.specs.Result.{result_ok}
use Rattle.cx_source.specs.Faults.{source_in}
use Rattle.cx_source.specs.declared.source.Source.{Source}
use Rattle.cx_translate.specs.Translation.{translation_of}
use Rattle.cx_asm_pass1.specs.Locations.{final_state}

-- translated; None where it has a fault
abbrev pub translated_in : List (List ℕ) → Option Source
translated_in lines = option_and_then (λ source. result_ok (translation_of source)) (result_ok (source_in lines))

-- everything of the source has its place
abbrev pub placed_source : Source → Option Source
placed_source source = if is_none (final_state source).fault then Some source else None

abbrev pub placed_in : List (List ℕ) → Option Source
placed_in lines = option_and_then placed_source (translated_in lines)
