-- The pieces of what is written of a last abend.
use Rattle.std.specs.Prelude.{ℕ, List, [], ◌∷◌, codes, Option}
use Rattle.std.specs.Option.{option_and_then, option_map_or}
use Rattle.std.specs.Map.{lookup}
use Rattle.cx_base.specs.Texts.{shown_name}
use Rattle.cx_ebcdic.specs.Names.{is_name}
use Rattle.cx_look_lines.specs.Words.{Lines, look_line}
use Rattle.cx_look_abend.specs.Noting.{KeptAbends}
use Rattle.cx_look_abend.specs.Dumps.{Dump}
use Rattle.cx_look_abend.specs.declared.abends.LastAbend.{LastAbend}

abbrev pub no_abend_line : List ℕ → Lines
no_abend_line name = look_line (codes "ABEND" ∷ shown_name name ∷ codes "NONE" ∷ [])

abbrev pub last_abend_of : KeptAbends → List ℕ → Option LastAbend
last_abend_of abends name = option_and_then (λ last. last) (lookup (is_name name) abends)

-- what is written of a DFHEISTG, where it was kept
abbrev pub if_dumped : (Dump → Lines) → Option Dump → Lines
if_dumped lines dump = option_map_or lines dump (look_line (codes "DFHEISTG" ∷ codes "--" ∷ []))

abbrev pub if_abend_dumped : (Dump → Lines) → LastAbend → Lines
if_abend_dumped lines last = if_dumped lines (option_and_then (λ it. it.dump) last.explanation)
