-- What a program of scripts does, and its status (own).
use Rattle.std.specs.Prelude.{◌≡◌, ℕ, List, Option, None, Result, Ok, Err, IfSome}
use Rattle.cx_script.specs.Language.{Language}
use Rattle.cx_script.specs.Session.{RanIn}
use Rattle.cx_script_blocks.specs.Status.{status_of}
use Rattle.cx_script_blocks.specs.declared.faults.RunFault.TheVariants as fault
use Rattle.cx_script_io.specs.Calls.{given}
use Rattle.cx_script_io.specs.declared.devices.DeviceFault.{DeviceFault}
use Rattle.cx_script_main.specs.declared.program.Run.{Run}
use Rattle.cx_script_main.specs.declared.program.Refusal.{Refusal}
use Rattle.cx_script_main.specs.declared.program.Refusal.TheVariants.{Usage, Memory}

-- A program's status: that of the run; where its words are refused 2, or that of a run without memory.
abbrev pub program_status : Result Run Refusal → ℕ
program_status (Ok run) = status_of run.answer
program_status (Err Usage) = 2
program_status (Err Memory) = status_of (Err fault.Memory)

-- a run of what can't be read
abbrev pub unread_run : Run
unread_run = record { answer = Err fault.Read; read = None }

-- a text that was told, or couldn't be written: as a run that did no line
abbrev pub told_run : Result Unit DeviceFault → Run
told_run (Ok done) = record { answer = Ok (record { lines = 0 }); read = None }
told_run (Err why) = record { answer = Err fault.Write; read = None }

-- A run over devices from this state of theirs on. Where what was read is kept, it is all that the reads gave.
pub record RanFrom {A B S D : Type 0} (language : Language A B) (performs : S → A → List ℕ → S → Type 0) (start : S)
    (reads writes : D → Option (List ℕ) → D → Type 0) (before : D) (run : Run) : Type 0 where
  pub after : D
  pub ran : RanIn language performs start reads writes before run.answer after
  pub kept : IfSome run.read (λ bytes. bytes ≡ given ran.calls)
