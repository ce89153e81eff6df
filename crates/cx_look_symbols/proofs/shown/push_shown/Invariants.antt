use Rattle.std.proofs.Common.{◌≡◌, ◌++◌, drop, map}
use Rattle.cx_look_symbols.specs.Sources.{shown_character}
use Rattle.cx_look_symbols.proofs.shown.push_shown.Given as goal

abbrev pub invariant-loop-c : goal.invariant-loop-c
invariant-loop-c l = l.text.items ++ map shown_character (drop l.c-index l.bytes) ≡ l.initial.text.items ++ map shown_character l.bytes
