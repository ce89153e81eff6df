use Rattle.std.proofs.Common.{◌≡◌, ◌++◌, drop}
use Rattle.std.specs.List.{filter_map}
use Rattle.cx_look_faults.specs.Notes.{copy_remark}
use Rattle.cx_look_faults.proofs.notes.copy_remarks.Given as goal

abbrev pub invariant-loop-part : goal.invariant-loop-part
invariant-loop-part l =
    l.all.items ++ filter_map (copy_remark l.operand) (drop l.part-index l.part-items) ≡ filter_map (copy_remark l.operand) l.part-items
