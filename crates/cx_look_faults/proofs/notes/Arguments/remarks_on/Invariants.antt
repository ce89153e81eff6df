use Rattle.std.proofs.Common.{◌≡◌, ◌++◌, drop}
use Rattle.std.specs.List.{filter_map}
use Rattle.cx_asm_pass2.specs.Whole.{whole_by}
use Rattle.cx_look_faults.specs.Notes.{remark_on}
use Rattle.cx_look_faults.proofs.notes.Arguments.remarks_on.Given as goal

abbrev pub invariant-loop-phrase : goal.invariant-loop-phrase
invariant-loop-phrase l =
    l.all.items ++ filter_map (remark_on (whole_by l.self.places.now) l.self.rewrites l.self.options.now l.operand) (drop l.phrase-index l.phrases)
    ≡ filter_map (remark_on (whole_by l.self.places.now) l.self.rewrites l.self.options.now l.operand) l.phrases
