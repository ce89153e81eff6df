use Rattle.std.proofs.Common.{◌≡◌, ◌+◌, drop}
use Rattle.cx_translate.specs.Sections.{continuation_count}
use Rattle.cx_translate.proofs.sections.continuation_count.Given as goal

abbrev pub invariant-loop-i : goal.invariant-loop-i
invariant-loop-i l = l.i + continuation_count l.continues (drop l.i l.items) ≡ continuation_count l.fn.continues l.items
