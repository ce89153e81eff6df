use Rattle.std.proofs.Common.{◌≡◌, ◌≤◌, ◌+◌, drop}
use Rattle.cx_translate.specs.Names.{characters_from}
use Rattle.cx_translate.proofs.names.characters.Given as goal

abbrev pub invariant-loop-c : goal.invariant-loop-c
invariant-loop-c l =
    record {
      few : l.count ≤ l.c-index;
      goes_on : l.count + characters_from l.held (drop l.c-index l.text) ≡ characters_from 0 l.text;
    }
