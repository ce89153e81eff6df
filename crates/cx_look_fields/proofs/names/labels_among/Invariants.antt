use Rattle.std.proofs.Common.{◌≡◌, ◌++◌}
use Rattle.std.specs.List.{filter_map}
use Rattle.cx_look_fields.specs.Addresses.{near_label}
use Rattle.cx_look_fields.proofs.names.labels_among.Given as goal

abbrev pub invariant-loop-name : goal.invariant-loop-name
invariant-loop-name l =
    l.nears.items ++ filter_map (near_label l.offset l.names.control) l.name-iterator
    ≡ filter_map (near_label l.offset l.names.control) l.names.symbols.entries
