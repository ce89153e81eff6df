-- What a level's program has asked to be done for each condition, and on an abend
-- (Application Programmer's Reference Manual, SC33-0077, HANDLE CONDITION, IGNORE CONDITION, HANDLE ABEND).
use Rattle.std.specs.Prelude.{ℕ, Option, Some, None, ◌∷◌, get_or, length, replicate, slice_set}
use Rattle.cx_base.specs.Conditions.{handled_conditions, condition_place}
use Rattle.cx_base.specs.declared.conditions.Condition.{Condition}
use Rattle.cx_base.specs.declared.conditions.Condition.TheVariants.{Normal}
use Rattle.cx_program.specs.declared.entries.Handler.{Handler}
use Rattle.cx_program.specs.declared.entries.Handler.TheVariants.{NoEntry}
use Rattle.cx_program.specs.declared.entries.Exit.{Exit}
use Rattle.cx_program.specs.declared.entries.Exit.TheVariants.{NoExit, Off, On}
use Rattle.cx_program.specs.declared.entries.Entries.{Entries}
use Rattle.cx_program.specs.declared.entries.Handling.{Handling}

-- a condition's entry
unfoldable pub entry_for : Entries → Condition → Handler
entry_for entries condition = get_or entries.of (condition_place condition) NoEntry

-- the entries, with this entry for one condition
unfoldable pub with_entry : Entries → Condition → Handler → Entries
with_entry entries condition entry = record entries { of = slice_set entries.of (condition_place condition) entry }

-- HANDLE ABEND CANCEL: the exit is off; without one nothing happens
abbrev pub turned_off : Exit → Exit
turned_off (On label) = Off label
turned_off exit = exit

-- HANDLE ABEND RESET: the exit is on again; without one nothing happens
abbrev pub turned_on : Exit → Exit
turned_on (Off label) = On label
turned_on exit = exit

-- the exit's label, where there is one and it is on
abbrev pub label_on : Exit → Option ℕ
label_on (On label) = Some label
label_on _ = None

-- no entry for any condition, and no exit
abbrev pub nothing_asked : Handling
nothing_asked =
    record { entries = record { of = replicate (length (Normal ∷ handled_conditions)) NoEntry }; exit = NoExit }
