use Rattle.std.proofs.Common.{◌≡◌, ◌++◌, drop}
use Rattle.std.specs.List.{flat_map}
use Rattle.cx_asm_pass2.specs.Whole.{whole_by}
use Rattle.cx_look_faults.specs.Faults.{kind_at}
use Rattle.cx_look_faults.specs.Notes.{notes_on}
use Rattle.cx_look_faults.proofs.notes.notes_in.Given as goal

abbrev pub invariant-loop-item : goal.invariant-loop-item
invariant-loop-item l =
    l.notes.items ++ flat_map (notes_on (whole_by l.places) (kind_at l.kinds.entries) l.items) (drop l.item-index l.items)
    ≡ flat_map (notes_on (whole_by l.places) (kind_at l.kinds.entries) l.items) l.items
