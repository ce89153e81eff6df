use Rattle.std.proofs.Common.{◌≡◌, ◌++◌}
use Rattle.std.specs.List.{flat_map}
use Rattle.cx_look_tables.specs.Programs.{transaction_word}
use Rattle.cx_look_tables.proofs.programs.transactions_of.Given as goal

abbrev pub invariant-loop-tran : goal.invariant-loop-tran
invariant-loop-tran l = l.text.items ++ flat_map (transaction_word l.program) l.tran-iterator ≡ l.initial.text.items ++ flat_map (transaction_word l.program) l.transactions.entries
