use Rattle.std.proofs.Common.{◌≡◌, ◌+◌, drop}
use Rattle.std.specs.List.{prefix_len}
use Rattle.cx_source.specs.Lines.{is_symbol_name_character}
use Rattle.cx_look_xref.proofs.names.front_len.Given as goal

abbrev pub invariant-loop-i : goal.invariant-loop-i
invariant-loop-i l = l.i + prefix_len is_symbol_name_character (drop l.i l.text) ≡ prefix_len is_symbol_name_character l.text
