-- What holds of each command, where it holds of all in the table.
use Rattle.std.proofs.Common.{◌≡◌, ◌==◌, Bool, true, Some, arith}
use Rattle.std.specs.List.{find, list_all}
use Rattle.cx_ebcdic.specs.Facts.Lookup.{find_meets}
use Rattle.cx_base.specs.Commands.{all_commands, row_of}
use Rattle.cx_base.specs.declared.commands.Command.{Command}

-- its number finds it
pub function_finds : (x : Command) → find (λ y. (row_of y).function == (row_of x).function) all_commands ≡ Some x
function_finds x = grind arith

-- so each passes a test that all pass
pub each_command : (test : Command → Bool) → list_all test all_commands ≡ true → (x : Command) → test x ≡ true
each_command test all x = (find_meets (λ y. (row_of y).function == (row_of x).function) test all_commands x all (function_finds x)).1
