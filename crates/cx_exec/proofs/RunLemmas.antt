-- Runs of steps, one more at their end.
use Rattle.std.proofs.Common.{◌-◌, false, List, Ok, Err, ◌≢◌, Some, ◌≡◌, ℕ, zero, suc, ◌+◌, ◌≤◌, ◌<◌, refl, sym, ◌∙◌, ap, add-one, subst, arith}
use Rattle.cx_exec.specs.declared.machine.Step.TheVariants.{Done, AtEntry, Interrupt}
use Rattle.cx_exec.specs.declared.machine.Interruption.{Interruption}
use Rattle.cx_exec.specs.declared.machine.Halt.{Halt}
use Rattle.cx_exec.specs.declared.machine.Halt.TheVariants as halt
use Rattle.cx_exec.specs.Machine.{Machine}
use Rattle.cx_exec.specs.Outcome.{Outcome}
use Rattle.cx_exec.specs.Rows.{Effect}
use Rattle.cx_exec.specs.Step.{entry, updated_by, is_execute, Runs, Steps}
use Rattle.cx_code.specs.declared.table.Op.{Op}
use Rattle.cx_code.specs.Table.{length_of}
use Rattle.cx_code.specs.Spelling.{instruction}
use Rattle.cx_code.specs.Reading.{fields_at}
use Rattle.cx_exec.specs.Advance.{Passes, Advances}
use Rattle.cx_exec.specs.Parts.{IsPerformed}

pub passes_none : (m : Machine) → Passes 0 m m
unfolding Passes
passes_none m = refl

pub passes_suc : (n : ℕ) (m mid after : Machine) → Passes n m mid → Steps mid Done after → Passes (suc n) m after
unfolding Passes
passes_suc zero m mid after so_far step = (after, subst (λ (s : Machine). Steps s Done after) so_far step, refl)
passes_suc (suc n) m mid after so_far step = (so_far.0, so_far.1, passes_suc n so_far.0 mid after so_far.2 step)

pub passes_more : (n : ℕ) (m mid after : Machine) → Passes n m mid → Steps mid Done after → Passes (n + 1) m after
passes_more n m mid after so_far step = rw add-one (passes_suc n m mid after so_far step)

-- the run ends where a step finds the entry
pub at_entry : (limit n : ℕ) (m now after : Machine) → n ≤ limit → Passes n m now → Steps now AtEntry after → Advances limit m halt.AtEntry after
unfolding Advances Steps
at_entry limit n m now after below so_far step =
    (n, below, subst (λ (s : Machine). Passes n m s) (sym step.1) so_far, ap (λ (s : Machine). s.next) step.1 ∙ step.0)

-- runs one after the other
pub steps_join : (n k : ℕ) (m mid after : Machine) → Passes n m mid → Passes k mid after → Passes (n + k) m after
unfolding Passes
steps_join zero k m mid after first second =
    let none : 0 + k ≡ k = omega arith in
    rw none (subst (λ (s : Machine). Passes k s after) first second)
steps_join (suc n) k m mid after first second =
    let more : suc n + k ≡ suc (n + k) = omega arith in
    rw more (first.0, first.1, steps_join n k first.0 mid after first.2 second)

pub runs_join : (n k : ℕ) (m mid after : Machine) (end : Halt) → Passes n m mid → Advances k mid end after → Advances (n + k) m end after
unfolding Advances
runs_join n k m mid after halt.AtEntry first (j, small, run, e) =
    (n + j, omega (arith, small), steps_join n j m mid after first run, e)
runs_join n k m mid after (halt.Interrupt cause place) first (j, small, before, run, last, e) =
    (n + j, omega (arith, small), before, steps_join n j m mid before first run, last, e)
runs_join n k m mid after halt.Limit first (all, apart) = (steps_join n k m mid after first all, apart)

-- a run that ended within a limit ended within each higher one
pub runs_within : (n limit : ℕ) (m after : Machine) (end : Halt) → n ≤ limit → (Some end ≢ Some halt.Limit) → Advances n m end after → Advances limit m end after
unfolding Advances
runs_within n limit m after halt.AtEntry within ended (j, small, run, e) = (j, omega (arith, small), run, e)
runs_within n limit m after (halt.Interrupt cause place) within ended (j, small, before, run, last, e) = (j, omega (arith, small), before, run, last, e)
runs_within n limit m after halt.Limit within ended run = absurd (ended refl)

-- a round that ended, after rounds that were done
pub round_ends : (limit left n : ℕ) (m mid after : Machine) (end : Halt) → left ≤ limit → n ≤ left → Passes (limit - left) m mid → (Some end ≢ Some halt.Limit) → Advances n mid end after → Advances limit m end after
round_ends limit left n m mid after end within fits first ended run =
    let all : limit - left + n ≤ limit = omega arith in
    runs_within (limit - left + n) limit m after end all ended (runs_join (limit - left) n m mid after end first run)

pub round_passes : (limit left n : ℕ) (m mid after : Machine) → left ≤ limit → n ≤ left → Passes (limit - left) m mid → Passes n mid after → Passes (limit - (left - n)) m after
round_passes limit left n m mid after within fits first run =
    let all : limit - (left - n) ≡ limit - left + n = omega arith in
    rw all (steps_join (limit - left) n m mid after first run)

pub passes_start : (limit : ℕ) (m : Machine) → Passes (limit - limit) m m
unfolding Passes
passes_start limit m = let none : limit - limit ≡ 0 = omega arith in rw none refl

-- one more step, and one fewer left
pub one_more : (steps left : ℕ) (m mid after : Machine) → left ≤ steps → 0 < left → Passes (steps - left) m mid → Steps mid Done after → Passes (steps - (left - 1)) m after
one_more steps left m mid after within some so_far step =
    let next : steps - (left - 1) ≡ (steps - left) + 1 = omega (arith, within, some) in
    rw next (passes_more (steps - left) m mid after so_far step)

-- the entry, or an interruption, with some steps left
pub stands_at_entry : (steps left : ℕ) (m now : Machine) → Passes (steps - left) m now → now.next ≡ entry → Advances steps m halt.AtEntry now
unfolding Steps
stands_at_entry steps left m now so_far here = at_entry steps (steps - left) m now now (omega arith) so_far (here, refl)

pub interrupt_left : (steps left place : ℕ) (cause : Interruption) (m now after : Machine) → left ≤ steps → 0 < left → Passes (steps - left) m now → Steps now (Interrupt cause) after → place ≡ after.next
    → Advances steps m (halt.Interrupt cause place) after
unfolding Advances
interrupt_left steps left place cause m now after within some so_far step is = (steps - left, omega (arith, within, some), now, so_far, step, is)

-- an instruction performed apart from the entry
pub run_more : (steps left : ℕ) (m now after : Machine) → left ≤ steps → 0 < left → Passes (steps - left) m now → now.next ≢ entry → Runs now (Ok tt) after
    → Passes (steps - (left - 1)) m after
unfolding Steps
run_more steps left m now after within some so_far apart run = one_more steps left m now after within some so_far (apart, run)

pub run_interrupt : (steps left place : ℕ) (cause : Interruption) (m now after : Machine) → left ≤ steps → 0 < left → Passes (steps - left) m now → now.next ≢ entry
    → Runs now (Err cause) after → place ≡ after.next → Advances steps m (halt.Interrupt cause place) after
unfolding Steps
run_interrupt steps left place cause m now after within some so_far apart run is = interrupt_left steps left place cause m now after within some so_far (apart, run) is

-- a run of one step
pub one_done : (m after : Machine) → m.next ≢ entry → Runs m (Ok tt) after → Passes 1 m after
one_done m after apart run = run_more 1 1 m m after (omega arith) (omega arith) (passes_none m) apart run

pub one_interrupted : (place : ℕ) (cause : Interruption) (m after : Machine) → m.next ≢ entry → Runs m (Err cause) after → place ≡ after.next
    → Advances 1 m (halt.Interrupt cause place) after
one_interrupted place cause m after apart run is = run_interrupt 1 1 place cause m m after (omega arith) (omega arith) (passes_none m) apart run is

pub none_at_entry : (m : Machine) → m.next ≡ entry → Advances 1 m halt.AtEntry m
none_at_entry m here = stands_at_entry 1 1 m m (passes_none m) here

pub apart_more : (steps left : ℕ) (m now fetched after : Machine) → left ≤ steps → 0 < left → Passes (steps - left) m now → fetched ≡ now → Passes 1 fetched after
    → Passes (steps - (left - 1)) m after
apart_more steps left m now fetched after within some so_far same run =
    round_passes steps left 1 m now after within (omega (arith, some)) so_far (subst (λ (s : Machine). Passes 1 s after) same run)

-- an instruction except EX runs by the effect of its row
pub row_runs : (now : Machine) (op : Op) (prefix : List ℕ) (outcome : Outcome) (after : Machine)
    → IsPerformed now op prefix → is_execute op ≡ false
    → Effect (instruction op (fields_at op prefix)) (updated_by now.next (length_of op)) now outcome after → Runs now outcome after
unfolding Runs
row_runs now op prefix outcome after is plain effect = rw (is, plain) effect

-- such an instruction, which was fetched with some steps left
pub row_more : (steps left : ℕ) (m now fetched after : Machine) (op : Op) (prefix : List ℕ) → (left ≤ steps) × Passes (steps - left) m now → 0 < left → fetched ≡ now
    → IsPerformed fetched op prefix → fetched.next ≢ entry → is_execute op ≡ false
    → Effect (instruction op (fields_at op prefix)) (updated_by fetched.next (length_of op)) fetched (Ok tt) after
    → (left - 1 ≤ steps) × Passes (steps - (left - 1)) m after
row_more steps left m now fetched after op prefix (within, so_far) some same is apart plain effect = (
  omega (arith, within),
  run_more steps left m fetched after within some (subst (λ (s : Machine). Passes (steps - left) m s) (sym same) so_far) apart (row_runs fetched op prefix (Ok tt) after is plain effect),
)

pub row_interrupt : (steps left : ℕ) (cause : Interruption) (m now fetched after : Machine) (op : Op) (prefix : List ℕ) → (left ≤ steps) × Passes (steps - left) m now → 0 < left → fetched ≡ now
    → IsPerformed fetched op prefix → fetched.next ≢ entry → is_execute op ≡ false
    → Effect (instruction op (fields_at op prefix)) (updated_by fetched.next (length_of op)) fetched (Err cause) after
    → Advances steps m (halt.Interrupt cause after.next) after
row_interrupt steps left cause m now fetched after op prefix (within, so_far) some same is apart plain effect =
    run_interrupt steps left after.next cause m fetched after within some (subst (λ (s : Machine). Passes (steps - left) m s) (sym same) so_far) apart
    (row_runs fetched op prefix (Err cause) after is plain effect) refl
