use Rattle.std.proofs.Common.{◌≡◌, ◌-◌, Some, length, map, take, drop, replicate}
use Rattle.cx_ebcdic.specs.Lookup.{each_some}
use Rattle.cx_ebcdic.specs.Names.{name_code}
use Rattle.cx_ebcdic.proofs.names.padded_name.Given as goal

abbrev pub invariant-loop-i : goal.invariant-loop-i
invariant-loop-i g l =
    record {
      size : length l.bytes ≡ g.row.WIDTH;
      codes : each_some (map name_code (take l.i l.text)) ≡ Some (take l.i l.bytes);
      blanks : drop l.i l.bytes ≡ replicate (g.row.WIDTH - l.i) 64;
    }
