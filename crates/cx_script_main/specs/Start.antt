-- What a program of scripts does when it is started (own).
use Rattle.std.specs.Prelude.{◌≡◌, ℕ, Bool, false, List, Option, Some, None, Result, Ok, Err, IfOk, OnErr}
use Rattle.std.specs.Option.{option_map}
use Rattle.std.specs.Result.{result_err}
use Rattle.std.specs.declared.alloc.AllocError.{AllocError}
use Rattle.cx_script.specs.Language.{Language}
use Rattle.cx_script_io.specs.declared.devices.DeviceFault.{DeviceFault}
use Rattle.cx_script_blocks.specs.Faults.{fault_line}
use Rattle.cx_script_blocks.specs.declared.faults.RunFault.TheVariants as fault
use Rattle.cx_script_main.specs.Program.{RanFrom, program_status, told_run, unread_run}
use Rattle.cx_script_main.specs.Shown.{faulty_line, shown_line}
use Rattle.cx_script_main.specs.Words.{file_of, text_of}
use Rattle.cx_script_main.specs.declared.program.About.{About}
use Rattle.cx_script_main.specs.declared.program.Run.{Run}
use Rattle.cx_script_main.specs.declared.program.Texts.{Texts}
use Rattle.cx_script_main.specs.declared.program.Refusal.{Refusal}
use Rattle.cx_script_main.specs.declared.program.Refusal.TheVariants.{Usage, Memory}

-- A run over devices, on a performer that was to be made. What is read is kept only where that is asked.
pub record RunsOnDevices {A B S D : Type 0} (language : Language A B) (performs : S → A → List ℕ → S → Type 0)
    (performer : Result S AllocError) (keeps : Bool) (reads writes : D → Option (List ℕ) → D → Type 0) (devices : D)
    (run : Run) : Type 0 where
  pub ran : IfOk performer (λ start. RanFrom language performs start reads writes devices run)
  pub unmade : OnErr performer (run.answer ≡ Err fault.Memory)
  pub unkept : keeps ≡ false → run.read ≡ None

-- a run of the script of the file that a host opens; where it can't be opened, it is as one that can't be read
pub record RunsFile {H D : Type 0} (opens : H → List ℕ → Result D DeviceFault → H → Type 0)
    (runs : D → Run → Type 0) (old : H) (path : List ℕ) (run : Run)
    (new : H) : Type 0 where
  pub opened : Result D DeviceFault
  pub given : opens old path opened new
  pub ran : IfOk opened (λ devices. runs devices run)
  pub unopened : OnErr opened (run ≡ unread_run)

-- a run of the script of the standard input that a host has
pub record RunsInput {H D : Type 0} (takes_input : H → D → H → Type 0) (runs : D → Run → Type 0)
    (old : H) (run : Run) (new : H) : Type 0 where
  pub input : D
  pub given : takes_input old input new
  pub ran : runs input run

-- a run of the script of the file that is named, or that of standard input
abbrev pub RunsScript : {H F I : Type 0} → (H → List ℕ → Result F DeviceFault → H → Type 0)
    → (F → Run → Type 0) → (H → I → H → Type 0) → (I → Run → Type 0)
    → H → Option (List ℕ) → Run → H → Type 0
RunsScript opens runs_file takes_input runs_input old (Some path) run new =
    RunsFile opens runs_file old path run new
RunsScript opens runs_file takes_input runs_input old None run new = RunsInput takes_input runs_input old run new

-- a text is written on the standard output that a host has
pub record TellsText {H : Type 0} (tells : H → List ℕ → Result Unit DeviceFault → H → Type 0) (old : H)
    (text : List ℕ) (run : Run) (new : H) : Type 0 where
  pub told : Result Unit DeviceFault
  pub given : tells old text told new
  pub is : run ≡ told_run told

-- What is done for words, by the file that they name. Usage is answered only where they are refused; Memory may be,
-- also for these, since taking words apart takes memory. Nothing more is asked of the host then.
abbrev pub Obeys : {H : Type 0} → (H → Option (List ℕ) → Run → H → Type 0)
    → Option (Option (List ℕ)) → H → Result Run Refusal → H → Type 0
Obeys runs (Some file) old (Ok run) new = runs old file run new
Obeys runs None old (Err Usage) new = new ≡ old
Obeys runs file old (Err Memory) new = new ≡ old
Obeys runs _ old _ new = ⊥

-- a text that the words ask for is told; where they ask for none, they are obeyed by the file that they name
abbrev pub Answers : {H : Type 0} → (H → List ℕ → Run → H → Type 0) → (H → Option (List ℕ) → Run → H → Type 0)
    → Option (List ℕ) → Option (Option (List ℕ)) → H → Result Run Refusal → H → Type 0
Answers tells runs (Some text) file old (Ok run) new = tells old text run new
Answers tells runs (Some text) file old (Err refusal) new = ⊥
Answers tells runs None file old outcome new = Obeys runs file old outcome new

-- the same by the words that the host gave, or by why it gave none
abbrev pub AnswersGiven : {H : Type 0} → (H → List ℕ → Run → H → Type 0)
    → (H → Option (List ℕ) → Run → H → Type 0) → Option Texts → Result (List (List ℕ)) Refusal
    → H → Result Run Refusal → H → Type 0
AnswersGiven tells runs texts (Ok words) old outcome new =
    Answers tells runs (text_of texts words) (file_of words) old outcome new
AnswersGiven tells runs texts (Err refusal) old outcome new = (outcome ≡ Err refusal) × (new ≡ old)

-- a host is asked for its words, and what they ask is done
pub record ObeysWords {H : Type 0} (gives_words : H → Result (List (List ℕ)) Refusal → H → Type 0)
    (tells : H → List ℕ → Run → H → Type 0) (runs : H → Option (List ℕ) → Run → H → Type 0) (texts : Option Texts)
    (old : H) (outcome : Result Run Refusal) (new : H) : Type 0 where
  pub words : Result (List (List ℕ)) Refusal
  pub asked : H
  pub given : gives_words old words asked
  pub done : AnswersGiven tells runs texts words asked outcome new

-- the line that reports an outcome; none of a run without a fault
abbrev pub outcome_line : List ℕ → Result Run Refusal → Option (List ℕ)
outcome_line usage (Ok run) = option_map fault_line (result_err run.answer)
outcome_line usage (Err Usage) = Some usage
outcome_line usage (Err Memory) = Some (fault_line fault.Memory)

-- the line of the script that its fault is of, as it is shown
abbrev pub line_report_of : Result Run Refusal → Option (List ℕ)
line_report_of (Ok run) = option_map shown_line (faulty_line run)
line_report_of (Err refusal) = None

-- a line is reported, or none is
abbrev pub ReportsLine : {H : Type 0} → (H → List ℕ → H → Type 0) → H → Option (List ℕ) → H → Type 0
ReportsLine reports old (Some line) new = reports old line new
ReportsLine reports old None new = new ≡ old

-- A program that was started: what its words ask is done, then its outcome is reported, and after that the line of the
-- script that its fault is of; and the status is that of the outcome.
pub record ProgramStarts {H : Type 0} (gives_words : H → Result (List (List ℕ)) Refusal → H → Type 0)
    (tells : H → List ℕ → Run → H → Type 0) (runs : H → Option (List ℕ) → Run → H → Type 0)
    (reports : H → List ℕ → H → Type 0) (about : About) (old : H) (status : ℕ) (new : H) : Type 0 where
  pub outcome : Result Run Refusal
  pub between : H
  pub does : ObeysWords gives_words tells runs about.texts old outcome between
  pub faulted : H
  pub reported : ReportsLine reports between (outcome_line about.usage.now outcome) faulted
  pub shown : ReportsLine reports faulted (line_report_of outcome) new
  pub is : status ≡ program_status outcome
