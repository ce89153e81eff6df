use Rattle.std.proofs.Common.{◌≡◌, ◌++◌, map}
use Rattle.cx_asm_pass1.proofs.TableLemmas.{entry_fault}
use Rattle.cx_asm_pass1.proofs.all_faults.listed.Given as goal

abbrev pub invariant-loop-line : goal.invariant-loop-line
invariant-loop-line l = l.faults.items ++ map entry_fault l.line-iterator ≡ map entry_fault l.table.entries
