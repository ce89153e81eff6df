-- What becomes of the levels where the current one was lent for writing (a borrow of the language; own).
use Rattle.std.specs.Borrow.{Fml, Lends, MutBor}
use Rattle.cx_program.specs.declared.level.Level.{Level}
use Rattle.cx_program.specs.contracts.level.Level.{the_row as level_row}
use Rattle.cx_program.specs.contracts.stack.LevelStack.{the_row as stack_row}
use Rattle.cx_program.specs.Levels.{Levels, with_current}

-- the current level is what was written last, and its callers are as before
abbrev pub LendsCurrent : MutBor Levels → MutBor Level → Fml
LendsCurrent levels lent = Lends stack_row level_row levels lent (with_current levels.now)
