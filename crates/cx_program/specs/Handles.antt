-- The handles of one level (Application Programmer's Reference Manual, SC33-0077, PUSH HANDLE, POP HANDLE), and the
-- choice for a condition ("Exceptional conditions").
use Rattle.std.specs.Prelude.{ℕ, Bool, true, false, if◌then◌else◌, List, [], ◌∷◌, Option, Some, None, unwrap_or}
use Rattle.cx_base.specs.Conditions.{abend_code_of}
use Rattle.cx_base.specs.declared.conditions.Condition.{Condition}
use Rattle.cx_base.specs.declared.conditions.Condition.TheVariants.{Error, Nospace, Nostg, Enqbusy}
use Rattle.cx_program.specs.declared.entries.Handler.{Handler}
use Rattle.cx_program.specs.declared.entries.Handler.TheVariants as entry
use Rattle.cx_program.specs.declared.entries.Exit.{Exit}
use Rattle.cx_program.specs.declared.entries.Entries.{Entries}
use Rattle.cx_program.specs.declared.entries.Handling.{Handling}
use Rattle.cx_program.specs.declared.choice.Choice.{Choice}
use Rattle.cx_program.specs.declared.choice.Choice.TheVariants.{Label, GoOn, Wait, Abend}
use Rattle.cx_program.specs.Entries.{entry_for, with_entry, nothing_asked}

-- What a level has asked for, and what its PUSH HANDLEs keep, the last kept first.
pub record Handles : Type 0 where
  pub active : Handling
  pub kept : List Handling

-- no entry, no exit, nothing kept: a level begins so
abbrev pub no_handles : Handles
no_handles = record { active = nothing_asked; kept = [] }

-- the handles, with this entry for one condition
abbrev pub put_entry : Handles → Condition → Handler → Handles
put_entry handles condition entry =
    record handles { active = record handles.active { entries = with_entry handles.active.entries condition entry } }

-- the handles with a new exit
abbrev pub put_exit : Handles → Exit → Handles
put_exit handles exit = record handles { active = record handles.active { exit = exit } }

-- PUSH HANDLE: what was asked for is kept, and nothing is asked for
abbrev pub after_push : Handles → Handles
after_push handles = record { active = nothing_asked; kept = handles.active ∷ handles.kept }

-- POP HANDLE, from what is kept: the last kept is put back; None where nothing is
abbrev pub after_pop : List Handling → Option Handles
after_pop [] = None
after_pop (last ∷ rest) = Some (record { active = last; kept = rest })

-- NOSPACE, NOSTG and ENQBUSY wait where they have no entry
abbrev pub condition_waits : Condition → Bool
condition_waits Nospace = true
condition_waits Nostg = true
condition_waits Enqbusy = true
condition_waits _ = false

-- the code of the abend that a condition leads to
abbrev pub condition_abend_code : Condition → List ℕ
condition_abend_code condition = unwrap_or (abend_code_of condition) []

-- by an entry: its label takes control, or the program goes on; without one this is done
abbrev pub choice_by_entry : Handler → Choice → Choice
choice_by_entry (entry.Label label) otherwise = Label label
choice_by_entry entry.Ignored otherwise = GoOn
choice_by_entry entry.NoEntry otherwise = otherwise

-- What is done for a condition that a command met, where neither NOHANDLE nor RESP was given: by its own entry; without
-- one NOSPACE, NOSTG and ENQBUSY wait, and every other condition goes by ERROR's entry, or abends with its code.
unfoldable pub choice : Entries → Condition → Choice
choice entries condition =
    choice_by_entry (entry_for entries condition)
    (if condition_waits condition then Wait
    else choice_by_entry (entry_for entries Error) (Abend (condition_abend_code condition)))
