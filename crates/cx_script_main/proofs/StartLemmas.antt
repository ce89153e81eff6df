-- What is run over a file that was opened, and what is done for words.
use Rattle.std.proofs.Common.{◌≡◌, ℕ, Bool, false, List, None, Some, Option, Result, Ok, Err, subst}
use Rattle.std.specs.Prelude.{IfOk, OnErr}
use Rattle.std.specs.declared.alloc.AllocError.{AllocError}
use Rattle.cx_script.specs.Language.{Language}
use Rattle.cx_script_io.specs.declared.devices.DeviceFault.{DeviceFault}
use Rattle.cx_script_blocks.specs.declared.faults.RunFault.TheVariants as fault
use Rattle.cx_script_main.specs.Program.{RanFrom, unread_run}
use Rattle.cx_script_main.specs.Start.{Answers, Obeys, RunsFile, RunsOnDevices}
use Rattle.cx_script_main.specs.declared.program.Refusal.{Refusal}
use Rattle.cx_script_main.specs.declared.program.Run.{Run}

-- a run over what was opened
runs_opened : {A B S D E : Type 0} (language : Language A B) (performs : S → A → List ℕ → S → Type 0) (performer : Result S AllocError) (keeps : Bool)
    (reads writes : D → Option (List ℕ) → D → Type 0) (opened : Result D E) (run : Run)
    → IfOk opened (λ devices. IfOk performer (λ start. RanFrom language performs start reads writes devices run))
    → IfOk opened (λ devices. OnErr performer (run.answer ≡ Err fault.Memory)) → IfOk opened (λ devices. keeps ≡ false → run.read ≡ None)
    → IfOk opened (λ devices. RunsOnDevices language performs performer keeps reads writes devices run)
runs_opened language performs performer keeps reads writes (Ok devices) run h k n = record { ran = h; unmade = k; unkept = n }
runs_opened language performs performer keeps reads writes (Err why) run h k n = tt

pub runs_file : {H A B S D : Type 0} (opens : H → List ℕ → Result D DeviceFault → H → Type 0) (language : Language A B)
    (performs : S → A → List ℕ → S → Type 0) (performer : Result S AllocError) (keeps : Bool) (reads writes : D → Option (List ℕ) → D → Type 0)
    (old new : H) (path : List ℕ) (opened : Result D DeviceFault) (run : Run) → opens old path opened new
    → IfOk opened (λ devices. IfOk performer (λ start. RanFrom language performs start reads writes devices run))
    → IfOk opened (λ devices. OnErr performer (run.answer ≡ Err fault.Memory)) → IfOk opened (λ devices. keeps ≡ false → run.read ≡ None)
    → OnErr opened (run ≡ unread_run)
    → RunsFile opens (RunsOnDevices language performs performer keeps reads writes) old path run new
runs_file opens language performs performer keeps reads writes old new path opened run given h k n u =
    record { opened = opened; given = given; ran = runs_opened language performs performer keeps reads writes opened run h k n; unopened = u }

-- a text that is asked for, and none
pub answers_text : {H : Type 0} (tells : H → List ℕ → Run → H → Type 0) (runs : H → Option (List ℕ) → Run → H → Type 0)
    (due : Option (List ℕ)) (file : Option (Option (List ℕ))) (old new : H) (text : List ℕ) (run : Run) → Some text ≡ due → tells old text run new
    → Answers tells runs due file old (Ok run) new
answers_text tells runs due file old new text run e h = subst (λ (it : Option (List ℕ)). Answers tells runs it file old (Ok run) new) e h

pub answers_script : {H : Type 0} (tells : H → List ℕ → Run → H → Type 0) (runs : H → Option (List ℕ) → Run → H → Type 0)
    (due : Option (List ℕ)) (file : Option (Option (List ℕ))) (old new : H) (outcome : Result Run Refusal) → None ≡ due
    → Obeys runs file old outcome new → Answers tells runs due file old outcome new
answers_script tells runs due file old new outcome e h = subst (λ (it : Option (List ℕ)). Answers tells runs it file old outcome new) e h
