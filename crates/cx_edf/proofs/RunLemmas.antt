-- A run under EDF goes on by one event.
use Rattle.std.proofs.Common.{◌≡◌, ℕ, ◌+◌, ◌<◌, List, [], ◌∷◌, ◌++◌, length, take, get_or}
use Rattle.std.proofs.lemmas.List.{take_more}
use Rattle.cx_edf.specs.declared.answers.EdfEvent.{EdfEvent}
use Rattle.cx_edf.specs.declared.answers.Answer.{Answer}
use Rattle.cx_edf.specs.State.{EdfState}
use Rattle.cx_edf.specs.Steps.{DisplayMaker, EdfApplies}
use Rattle.cx_edf.specs.Runs.{EdfRun}
use Rattle.cx_edf.proofs.TraceLemmas.{run_empty, run_last}

-- no event
pub run_none : (make : DisplayMaker) (s : EdfState) (events : List EdfEvent) → EdfRun make s (take 0 events) [] s
run_none make s [] = run_empty make s
run_none make s (e ∷ events) = run_empty make s

pub run_more : (make : DisplayMaker) (old mid new : EdfState) (events : List EdfEvent) (k : ℕ) (event : EdfEvent) (answers : List Answer) (given : Answer) → k < length events → event ≡ get_or events k event
    → EdfRun make old (take k events) answers mid → EdfApplies make mid event given new → EdfRun make old (take (k + 1) events) (answers ++ given ∷ []) new
run_more make old mid new events k event answers given below is run applies =
    let last = run_last make old mid new (take k events) event answers given run applies in
    rw (take_more events k event below, ← is) last
