use Rattle.std.proofs.Common.{◌≡◌, false, drop}
use Rattle.cx_translate.specs.Names.{closes_from}
use Rattle.cx_translate.proofs.names.closes.Given as goal

abbrev pub invariant-loop-c : goal.invariant-loop-c
invariant-loop-c l = closes_from l.pending (drop l.c-index l.text) ≡ closes_from false l.text
