-- The machine after so many instructions of a turn: there is one, and the turn that is then done goes on from it.
use Rattle.std.proofs.Common.{◌≡◌, ℕ, zero, suc, ◌-◌, ◌<◌, ◌≤◌, Bool, true, false, List, Option, Some, None, ap, sym, subst, refl, arith, ◌∙◌}
use Rattle.std.specs.Prelude.{if◌then◌else◌, option_and_then, MatchBool, MatchOption}
use Rattle.cx_exec.specs.Advance.{Advances, Passes}
use Rattle.cx_exec.specs.Machine.{Machine}
use Rattle.cx_exec.specs.Step.{Steps, entry}
use Rattle.cx_exec.specs.declared.machine.Halt.{Halt}
use Rattle.cx_exec.specs.declared.machine.Halt.TheVariants as halt
use Rattle.cx_exec.specs.declared.machine.Interruption.{Interruption}
use Rattle.cx_exec.specs.declared.machine.Step.{Step}
use Rattle.cx_exec.specs.declared.machine.Step.TheVariants.{Done, AtEntry, Interrupt}
use Rattle.cx_exec_laws.specs.Laws.Decide.{StepsDecide}
use Rattle.cx_region_state.specs.declared.replies.TurnReply.{TurnReply}
use Rattle.cx_region_state.specs.declared.replies.TurnReply.TheVariants as turn
use Rattle.cx_region_state.specs.State.{TaskContext, TaskState}
use Rattle.cx_region_task.specs.declared.cause.AbendRecord.{AbendRecord}
use Rattle.cx_region_task.specs.Turn.{HalfTurnWith, PerformsCommand, RunsOn, machine_of, most_steps}
use Rattle.cx_region.specs.State.{RegionState, TerminalState}
use Rattle.cx_region.specs.Tables.{terminal_of}
use Rattle.cx_region.specs.Turn.{TakesTurn, TaskTakesTurn, context_of, put_back, task_after}
use Rattle.cx_look_turn.specs.Facts.Visits.{passes_decide}
use Rattle.cx_look_turn.specs.Laws.{GoesOnFrom, MachinesAfterDecide, TurnsGoOnFrom}
use Rattle.cx_look_turn.specs.NextTurn.{IsMachineAfter, runs_on}
use Rattle.cx_look_turn.specs.Traces.{PassesFewer}

-- ---- no more are done than come before the entry, or before one that is interrupted
ends_there : StepsDecide Steps → (k n : ℕ) (m now other : Machine) (end : Step) → Passes k m now → Steps now end other → (end ≡ Done → ⊥) → k < n
    → PassesFewer n m
unfolding Passes
ends_there decide zero zero m now other end so_far steps last less after passes = absurd (omega (arith, less))
ends_there decide (suc k) zero m now other end so_far steps last less after passes = absurd (omega (arith, less))
ends_there decide zero (suc n) m now other end so_far steps last less after (mid, step, more) =
    last (sym (decide m Done end mid other step (subst (λ (x : Machine). Steps x end other) so_far steps)).0)
ends_there decide (suc k) (suc n) m now other end (mid, one, rest) steps last less after (left, first, more) =
    let same = (decide m Done Done left mid first one).1 in
    ends_there decide k n mid now other end rest steps last (omega (arith, less)) after (subst (λ (x : Machine). Passes n x after) same more)

pub fewer_at_entry : StepsDecide Steps → (k n : ℕ) (m now after : Machine) → k < n → Passes k m now → Steps now AtEntry after → PassesFewer n m
fewer_at_entry decide k n m now after less so_far step = ends_there decide k n m now after AtEntry so_far step (λ e. absurd (cc)) less

pub fewer_interrupted : StepsDecide Steps → (k n : ℕ) (m now after : Machine) (cause : Interruption) → k < n → Passes k m now
    → Steps now (Interrupt cause) after → PassesFewer n m
fewer_interrupted decide k n m now after cause less so_far step =
    ends_there decide k n m now after (Interrupt cause) so_far step (λ e. absurd (cc)) less

-- ---- there is one machine
pub machines_after_decide : StepsDecide Steps → MachinesAfterDecide
unfolding IsMachineAfter
machines_after_decide decide None n one other p q = p ∙ sym q
machines_after_decide decide (Some m) n None None p q = refl
machines_after_decide decide (Some m) n None (Some other) p q = absurd (p other q)
machines_after_decide decide (Some m) n (Some one) None p q = absurd (q one p)
machines_after_decide decide (Some m) n (Some one) (Some other) p q = ap (λ (x : Machine). Some x) (passes_decide decide n m one other p q)

-- ---- the rest of a run
entry_left : StepsDecide Steps → (limit k : ℕ) (m mid after : Machine) → Steps m Done mid → k ≤ suc limit → Passes k m after → after.next ≡ entry
    → Advances limit mid halt.AtEntry after
unfolding Advances Passes Steps
entry_left decide limit zero m mid after step small none e = absurd (step.0 (ap (λ (s : Machine). s.next) (sym none) ∙ e))
entry_left decide limit (suc k) m mid after step small (left, first, more) e =
    (k, omega (arith, small), subst (λ (x : Machine). Passes k x after) (decide m Done Done left mid first step).1 more, e)

interrupt_left : StepsDecide Steps → (limit k place : ℕ) (m mid before after : Machine) (cause : Interruption) → Steps m Done mid → k < suc limit
    → Passes k m before → Steps before (Interrupt cause) after → place ≡ after.next → Advances limit mid (halt.Interrupt cause place) after
unfolding Advances Passes
interrupt_left decide limit zero place m mid before after cause step small none last e =
    let same = (decide m Done (Interrupt cause) mid after step (subst (λ (x : Machine). Steps x (Interrupt cause) after) none last)).0 in
    absurd (cc)
interrupt_left decide limit (suc k) place m mid before after cause step small (left, first, more) last e =
    (k, omega (arith, small), before, subst (λ (x : Machine). Passes k x before) (decide m Done Done left mid first step).1 more, last, e)

left_after_one : StepsDecide Steps → (limit : ℕ) (m mid after : Machine) (how : Halt) → Steps m Done mid → Advances (suc limit) m how after
    → Advances limit mid how after
unfolding Advances Passes
left_after_one decide limit m mid after halt.AtEntry step (k, small, passes, e) = entry_left decide limit k m mid after step small passes e
left_after_one decide limit m mid after (halt.Interrupt cause place) step (k, small, before, passes, last, e) =
    interrupt_left decide limit k place m mid before after cause step small passes last e
left_after_one decide limit m mid after halt.Limit step ((left, first, more), apart) =
    (subst (λ (x : Machine). Passes limit x after) (decide m Done Done left mid first step).1 more, apart)

rest_of_run : StepsDecide Steps → (limit n : ℕ) (m there after : Machine) (how : Halt) → n ≤ limit → Passes n m there → Advances limit m how after
    → Advances (limit - n) there how after
unfolding Passes
rest_of_run decide limit zero m there after how few none run =
    let whole : limit ≡ limit - zero = omega arith in
    subst (λ k. Advances k there how after) whole (subst (λ (x : Machine). Advances limit x how after) (sym none) run)
rest_of_run decide zero (suc n) m there after how few passes run = absurd (omega (arith, few))
rest_of_run decide (suc limit) (suc n) m there after how few (mid, step, more) run =
    let less : limit - n ≡ suc limit - suc n = omega arith in
    subst (λ k. Advances k there how after) less
    (rest_of_run decide limit n mid there after how (omega (arith, few)) more (left_after_one decide limit m mid after how step run))

-- ---- the turn
of_run : StepsDecide Steps → (region new : RegionState) (name : List ℕ) (n : ℕ) (there : Machine) (reply : TurnReply) (terminal : TerminalState)
    (task : TaskState) (abend_record : Option AbendRecord) (reached : TaskContext) (due : Bool) → terminal_of region name ≡ Some terminal
    → terminal.task ≡ Some task → n ≤ most_steps
    → IsMachineAfter (if due then None else Some (machine_of (context_of region terminal task))) n (Some there)
    → MatchBool due (PerformsCommand (context_of region terminal task) reply abend_record reached)
    (RunsOn (context_of region terminal task) reply abend_record reached)
    → new ≡ put_back region name reached (task_after reply reached.task) → GoesOnFrom region name n there reply new
unfolding IsMachineAfter
of_run decide region new name n there reply terminal task abend_record reached true known live few is turns after = absurd (cc)
of_run decide region new name n there reply terminal task abend_record reached false known live few is turns after = record {
  terminal = terminal;
  known = known;
  task = task;
  live = live;
  abend_record = abend_record;
  reached = reached;
  runs = turns;
  passes = is;
  rest = rest_of_run decide most_steps n (machine_of (context_of region terminal task)) there (machine_of turns.between) turns.how few is turns.advances;
  is = after;
}

on_task : StepsDecide Steps → (region new : RegionState) (name : List ℕ) (n : ℕ) (there : Machine) (reply : TurnReply) (terminal : TerminalState)
    (task : Option TaskState) → terminal_of region name ≡ Some terminal → terminal.task ≡ task → n ≤ most_steps
    → IsMachineAfter (option_and_then (runs_on region.shared.storage) task) n (Some there)
    → MatchOption task ((reply ≡ turn.Idle) × (new ≡ region)) (λ task. TaskTakesTurn region name terminal task reply new)
    → GoesOnFrom region name n there reply new
unfolding HalfTurnWith IsMachineAfter
on_task decide region new name n there reply terminal None known live few is turns = absurd (cc)
on_task decide region new name n there reply terminal (Some task) known live few is turns =
    of_run decide region new name n there reply terminal task turns.half_turn.abend_record turns.reached task.due known live few is turns.half_turn.turns
    turns.after

on_terminal : StepsDecide Steps → (region new : RegionState) (name : List ℕ) (n : ℕ) (there : Machine) (reply : TurnReply)
    (terminal : Option TerminalState) → terminal_of region name ≡ terminal → n ≤ most_steps
    → IsMachineAfter (option_and_then (runs_on region.shared.storage) (option_and_then (λ terminal. terminal.task) terminal)) n (Some there)
    → MatchOption terminal ((reply ≡ turn.NoSuchTerminal) × (new ≡ region)) (λ terminal.
    MatchOption terminal.task ((reply ≡ turn.Idle) × (new ≡ region)) (λ task. TaskTakesTurn region name terminal task reply new))
    → GoesOnFrom region name n there reply new
unfolding IsMachineAfter
on_terminal decide region new name n there reply None known few is turns = absurd (cc)
on_terminal decide region new name n there reply (Some terminal) known few is turns =
    on_task decide region new name n there reply terminal terminal.task known refl few is turns

pub turns_go_on_from : StepsDecide Steps → TurnsGoOnFrom
unfolding TakesTurn
turns_go_on_from decide region new name n there reply is few turns =
    on_terminal decide region new name n there reply (terminal_of region name) refl few is turns
