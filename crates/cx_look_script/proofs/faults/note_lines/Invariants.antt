use Rattle.std.proofs.Common.{◌≡◌, ◌++◌, take}
use Rattle.std.specs.List.{flat_map}
use Rattle.cx_look_script.specs.Faults.{note_line}
use Rattle.cx_look_script.proofs.faults.note_lines.Given as goal

abbrev pub invariant-loop-note : goal.invariant-loop-note
invariant-loop-note l = l.report ≡ l.initial.report ++ flat_map (note_line l.source) (take l.note-index l.notes)
