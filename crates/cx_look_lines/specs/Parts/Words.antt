-- A line as it is written.
use Rattle.std.specs.Prelude.{ℕ, List, ◌++◌, codes}
use Rattle.std.specs.List.{filter}
use Rattle.cx_look_lines.specs.Words.{is_in_line}

abbrev pub marked_line : List ℕ → List ℕ
marked_line line = codes "> " ++ filter is_in_line line ++ codes "\n"
