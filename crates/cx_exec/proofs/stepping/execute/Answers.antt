use Rattle.std.proofs.Common.{rules}
use Rattle.cx_code.specs.Table.{operation_row}
use Rattle.cx_exec.proofs.stepping.execute.Goals as goal

pub strings_effect-requires : goal.strings_effect-requires
unfolding operation_row
strings_effect-requires g c = search rules
