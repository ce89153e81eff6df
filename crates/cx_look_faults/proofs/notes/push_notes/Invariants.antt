use Rattle.std.proofs.Common.{◌≡◌, ◌++◌, drop, map}
use Rattle.cx_look_faults.specs.Notes.{note_on}
use Rattle.cx_look_faults.proofs.notes.push_notes.Given as goal

abbrev pub invariant-loop-said : goal.invariant-loop-said
invariant-loop-said l =
    l.notes.items ++ map (note_on l.found.items.now l.found.item.now l.found.stmt.now) (drop l.said-index l.remarks)
    ≡ l.initial.notes.items ++ map (note_on l.found.items.now l.found.item.now l.found.stmt.now) l.remarks
