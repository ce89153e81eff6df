-- What HELP writes of its table, and what is written for a bad look (own).
use Rattle.std.specs.Prelude.{ℕ, Option, Some, None, List, [], ◌∷◌, ◌++◌, codes}
use Rattle.std.specs.Fmt.{decimal}
use Rattle.std.specs.List.{flat_map}
use Rattle.cx_look.specs.Looks.{help_line, subjects}
use Rattle.cx_look.specs.declared.look.Subject.{Subject}
use Rattle.cx_look_lines.specs.Words.{look_line, Lines}

abbrev pub form_lines : List Subject → Lines
form_lines words = flat_map (λ s. look_line (help_line s ∷ [])) words

unfoldable pub help_text : Option Subject → Lines
help_text None = form_lines subjects
help_text (Some s) = form_lines (s ∷ [])

-- a bad look: the number of its line, and the line of its word
abbrev pub bad_look_text : ℕ → Subject → Lines
bad_look_text number s = look_line (codes "?" ∷ codes "line" ∷ (decimal number ++ codes ":") ∷ help_line s ∷ [])
